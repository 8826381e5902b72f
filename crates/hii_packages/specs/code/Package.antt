-- A package of the program as a package of the chapters.
use Rattle.browser_rules.specs.Packages as chapter
use Rattle.hii_packages.specs.declared.package.Package.{Package}

-- a package without where its bytes lie in memory
abbrev pub package_of : Package → chapter.Package
package_of p = record { place = p.place; kind = p.kind; bytes = p.bytes.now }
