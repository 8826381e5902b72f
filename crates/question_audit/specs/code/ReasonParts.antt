-- What the reasons of one kind have before them.
use Rattle.std.specs.Prelude.{Option, Some, None, List, [], ◌∷◌, ◌++◌, filter, map}
use Rattle.ifr_scopes.specs.code.Lists.{guards_left}
use Rattle.ifr_scopes.specs.code.LocksLeft.{locks_left}
use Rattle.ifr_scopes.specs.declared.guards_at.GuardsAt.{GuardsAt}
use Rattle.ifr_scopes.specs.declared.locks.Locks.{Locks}
use Rattle.hii_values.specs.declared.denial.DenialKind.TheVariants.{GrayOutIf, Locked}
use Rattle.guard_policy.specs.Policy.{denied_by, grays_out, hides, hiding}
use Rattle.guard_policy.specs.World.{World}
use Rattle.guard_policy.specs.declared.denial.Denial.{Denial}
use Rattle.question_audit.specs.declared.reason_parts.OwnReasons.{OwnReasons}

-- those of the guards that hide
abbrev pub hiding_left : World → GuardsAt → List Denial
hiding_left w it = map hiding (filter (hides w) (guards_left it))

-- those of the GRAY_OUT_IFs that hold
abbrev pub graying_out_left : World → GuardsAt → List Denial
graying_out_left w it = map (denied_by GrayOutIf) (filter (grays_out w) (guards_left it))

-- those of the LOCKEDs
abbrev pub locked_left : Option Locks → List Denial
locked_left None = []
locked_left (Some it) = map (denied_by Locked) (locks_left it)

-- one, if it is left
abbrev pub one_left : Option Denial → List Denial
one_left None = []
one_left (Some denial) = denial ∷ []

-- those of the question by itself
abbrev pub own_left : OwnReasons → List Denial
own_left it = one_left it.read_only ++ one_left it.outside
