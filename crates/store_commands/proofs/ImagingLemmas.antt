-- Stores that are filled, as `image` says them.
use Rattle.std.proofs.Common.{◌≡◌, ◌∙◌, ◌++◌, ℕ, Bool, true, false, cond, List, [], ◌∷◌, Option, None, Some, Ok, ap, inr, map, option_map, refl, subst, sym}
use Rattle.std.specs.Io.Buffered.{writer_buffer, writer_contents}
use Rattle.std.specs.declared.io.BufWriter.{BufWriter}
use Rattle.hii_bytes.specs.declared.watched.Watched.{Watched}
use Rattle.hii_bytes.specs.Watching.{has_failed, inner_of, pen_of}
use Rattle.ifr_nodes.specs.Nodes.{nodes_of}
use Rattle.hii_varstore.specs.Image.{image_of}
use Rattle.hii_varstore.specs.StoreNodes.{layout_of}
use Rattle.std.specs.List.{AllByRecursion, find, flat_map}
use Rattle.ifr_opcodes.specs.Forest.{Node}
use Rattle.hii_varstore.specs.Stores.{Store, StoreMap}
use Rattle.audit_options.specs.declared.tasks.ImageOptions.{ImageOptions}
use Rattle.audit_options.specs.declared.tasks.Sources.{Sources}
use Rattle.audit_json.specs.Telling.{asked}
use Rattle.audit_json.specs.declared.telling.Telling.{Telling}
use Rattle.store_audit.specs.Fillings.{filled_told, store_from}
use Rattle.store_audit.specs.code.Fillings as code
use Rattle.store_audit.specs.declared.fillings.Filling.{Filling}
use Rattle.store_audit.specs.Fillings.{buffer_stores}
use Rattle.store_audit.specs.Defaulted.{Defaults, defaults_told, left_by}
use Rattle.store_audit.specs.Images.{PutsImage, WritesImage}
use Rattle.exported_config.specs.Giving.{Exported}
use Rattle.store_commands.specs.Configured.{IsText, config_in}
use Rattle.audit_answers.specs.Endings.{TellsAndWrites}
use Rattle.store_commands.specs.Files.{Known}
use Rattle.store_commands.specs.Defaulting.{IsMadeOf, defaults_asked}
use Rattle.store_commands.specs.Imaging.{AreSupplied, AreSupplies, IsFilled, SaysImage, Supply, is_unfit, stores_given, unknown_file}
use Rattle.store_commands.specs.Sources.{IsSource}
use Rattle.audit_answers.specs.code.Endings.{Commits, PassesFrom}
use Rattle.store_commands.specs.code.Imaging.{AreFit, SaysFillings, stores_in}
use Rattle.audit_answers.specs.declared.ended.Ended.{Ended}
use Rattle.audit_answers.specs.declared.ended.Ended.TheVariants.{Done, Refused, WriteAnswers, WriteOut, NoMemory}
use Rattle.audit_answers.proofs.EndingLemmas.{left_image, tells_and_writes, tells_refused}

abbrev pub supply : Filling → Supply
supply f = record { node = code.filling_node f; source = f.source }

pub supplied_nodes : (fs : List Filling) → map (λ (s : Supply). s.node) (map supply fs) ≡ map code.filling_node fs
supplied_nodes [] = refl
supplied_nodes (f ∷ fs) = ap (λ (ns : List Node). code.filling_node f ∷ ns) (supplied_nodes fs)

pub supplied_told : (telling : Telling) (fs : List Filling) → flat_map (λ (s : Supply). filled_told telling s.node s.source) (map supply fs) ≡ flat_map (code.filling_told telling) fs
supplied_told telling [] = refl
supplied_told telling (f ∷ fs) = ap (λ text. code.filling_told telling f ++ text) (supplied_told telling fs)

pub supplied_stores : (fs : List Filling) → map (λ (s : Supply). store_from s.node s.source) (map supply fs) ≡ map code.filled_store fs
supplied_stores [] = refl
supplied_stores (f ∷ fs) = ap (λ (ss : List Store). code.filled_store f ∷ ss) (supplied_stores fs)

pub supplied_unfit : (fs : List Filling) → find is_unfit (map supply fs) ≡ option_map supply (find code.is_unfit fs)
supplied_unfit [] = refl
supplied_unfit (f ∷ fs) = go (code.is_unfit f) (supplied_unfit fs)
  where
    go : (b : Bool) → find is_unfit (map supply fs) ≡ option_map supply (find code.is_unfit fs)
        → cond b (Some (supply f)) (find is_unfit (map supply fs)) ≡ option_map supply (cond b (Some f) (find code.is_unfit fs))
    go true e = refl
    go false e = e

pub supplied_sources : (known : List ℕ → Known) (from : Sources) (config : Exported) (fs : List Filling) → AllByRecursion (λ f. IsSource known from config (code.filling_node f) f.source) fs
    → AllByRecursion (λ (s : Supply). IsSource known from config s.node s.source) (map supply fs)
supplied_sources known from config [] all = tt
supplied_sources known from config (f ∷ fs) all = (all.0, supplied_sources known from config fs all.1)

pub are_supplied : (known : List ℕ → Known) (from : Sources) (text ifr : List ℕ) (config : Exported) (fs : List Filling) → config_in ifr text ≡ Ok config → map code.filling_node fs ≡ buffer_stores (nodes_of ifr)
    → AllByRecursion (λ f. IsSource known from config (code.filling_node f) f.source) fs → AreSupplied known from text ifr (map supply fs)
are_supplied known from text ifr config fs read all sources =
    record { config = config; read = read; stores = supplied_nodes fs ∙ all; sources = supplied_sources known from config fs sources }

pub stores_are_given : (ifr : List ℕ) (fs : List Filling) → stores_in ifr fs ≡ stores_given ifr (map supply fs)
stores_are_given ifr fs = ap (λ (ss : List Store). record { guid = (layout_of (nodes_of ifr)).guid; stores = ss }) (sym (supplied_stores fs))

-- ---- what is said of fillings is what `image` says

module _ (known : List ℕ → Known) (options : ImageOptions) (list ifr : List ℕ) (fs : List Filling) (made : IsMadeOf options list ifr)
    (none : unknown_file (layout_of (nodes_of ifr)) options.sources.files.items ≡ None) (all : map code.filling_node fs ≡ buffer_stores (nodes_of ifr))
    (text : List ℕ) (is_text : IsText known (option_map (λ path. path.now) options.sources.config) text) (config : Exported) (read : config_in ifr text ≡ Ok config)
    (sources : AllByRecursion (λ f. IsSource known options.sources config (code.filling_node f) f.source) fs)
    (defaults : Option Defaults) (are_asked : defaults ≡ defaults_asked options list) where
  supplies : AreSupplies known options.sources ifr (map supply fs)
  supplies = record {
    none_unknown = none;
    text = text;
    is_text = is_text;
    supplied = are_supplied known options.sources text ifr config fs read all sources;
  }

  same_stores : stores_in ifr fs ≡ stores_given ifr (map supply fs)
  same_stores = stores_are_given ifr fs

  filled : (bytes text : List ℕ) → AreFit (asked options.json) ifr defaults fs bytes text → IsFilled known options list ifr bytes text
  filled bytes text fit = record {
    supplies = map supply fs;
    given = supplies;
    fit = supplied_unfit fs ∙ ap (option_map supply) fit.0;
    lines = fit.1 ∙ ap (λ (l : List ℕ). l ++ defaults_told (asked options.json) ifr defaults (stores_in ifr fs)) (sym (supplied_told (asked options.json) fs))
        ∙ ap (λ (m : StoreMap). flat_map (λ (s : Supply). filled_told (asked options.json) s.node s.source) (map supply fs) ++ defaults_told (asked options.json) ifr defaults m) same_stores
        ∙ ap (λ (d : Option Defaults). flat_map (λ (s : Supply). filled_told (asked options.json) s.node s.source) (map supply fs) ++ defaults_told (asked options.json) ifr d (stores_given ifr (map supply fs))) are_asked;
    image = fit.2 ∙ ap (λ (m : StoreMap). image_of (left_by ifr defaults m)) same_stores
        ∙ ap (λ (d : Option Defaults). image_of (left_by ifr d (stores_given ifr (map supply fs)))) are_asked;
  }

  pub says_image : (bytes : List ℕ) (ended : Ended) (text : List ℕ) → SaysFillings (asked options.json) ifr defaults fs bytes ended text → SaysImage known options list bytes ended text
  says_image bytes Done text said = (ifr, made, filled bytes text said)
  says_image bytes Refused text said = inr (ifr, made, inr (inr (map supply fs, supplies, supply said.0, supplied_unfit fs ∙ ap (option_map supply) said.1, said.2)))
  says_image bytes WriteAnswers text said = absurd said
  says_image bytes WriteOut text said = (ifr, made, filled bytes text said)
  says_image bytes NoMemory text said = said

-- ---- the image behind its lines

module _ {A Z O : Type 0} (telling : Telling) (contents : A → Option (List ℕ)) (file : O → Option (List ℕ)) (ifr : List ℕ) (defaults : Option Defaults) (fs : List Filling)
    (start new : Watched (BufWriter A Z)) (old mid last : Watched O) (ended : Ended) where
  -- all stores are filled
  pub writes_filled : (unfit : Option Filling) → find code.is_unfit fs ≡ unfit
      → PutsImage file (option_map (code.refused_filling telling) unfit) (left_by ifr defaults (stores_in ifr fs)) (flat_map (code.filling_told telling) fs ++ defaults_told telling ifr defaults (stores_in ifr fs)) true
      (pen_of (writer_contents contents) start) (pen_of (writer_contents contents) new) old mid → (has_failed new ≡ false → writer_buffer (inner_of new) ≡ [])
      → (has_failed new ≡ true → (ended ≡ WriteAnswers) × (last ≡ mid)) → (has_failed new ≡ false → Commits file mid ended last)
      → TellsAndWrites (SaysFillings telling ifr defaults fs) contents file start old ended new last
  writes_filled (Some f) is puts held unwritten commits = let bad : true ≡ false = puts.0 in cc
  writes_filled None is puts held unwritten commits =
      let stores = left_by ifr defaults (stores_in ifr fs) in
      tells_and_writes (SaysFillings telling ifr defaults fs) contents file start new old mid last puts.1.between (image_of stores) _ ended (is, refl, refl) (is, refl, refl) puts.1.written puts.1.passed held
      (λ broken. subst (λ (b : Bool). WritesImage file stores b old mid) broken puts.2) unwritten commits
      (λ sound. let w = subst (λ (b : Bool). WritesImage file stores b old mid) sound puts.2 in left_image file old mid last (image_of stores) ended w.0 w.1 (commits sound))

-- a store is not given what it holds
pub writes_unfit : {A Z O : Type 0} (telling : Telling) (contents : A → Option (List ℕ)) (file : O → Option (List ℕ)) (ifr : List ℕ) (defaults : Option Defaults) (fs : List Filling) (start told_to new : Watched (BufWriter A Z)) (old mid : Watched O)
    (ended : Ended) (unfit : Option Filling) → find code.is_unfit fs ≡ unfit
    → PutsImage file (option_map (code.refused_filling telling) unfit) (left_by ifr defaults (stores_in ifr fs)) (flat_map (code.filling_told telling) fs ++ defaults_told telling ifr defaults (stores_in ifr fs)) false (pen_of (writer_contents contents) start)
    (pen_of (writer_contents contents) told_to) old mid → PassesFrom contents Refused (pen_of (writer_contents contents) told_to) ended new
    → TellsAndWrites (SaysFillings telling ifr defaults fs) contents file start old ended new mid
writes_unfit telling contents file ifr defaults fs start told_to new old mid ended None is puts passed = let bad : false ≡ true = puts.0 in cc
writes_unfit telling contents file ifr defaults fs start told_to new old mid ended (Some f) is puts passed =
    tells_refused (SaysFillings telling ifr defaults fs) contents file start new old mid (pen_of (writer_contents contents) told_to) ended (code.refused_filling telling f) (f, is, refl) puts.1 passed puts.2
