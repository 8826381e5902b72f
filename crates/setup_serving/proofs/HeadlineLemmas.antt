-- A run leaves what the chapter Headline says.
use Rattle.std.proofs.Common.{◌≡◌, ℕ, Bool, true, false, List, [], ◌∷◌, if◌then◌else◌, Option, None, Some, IfSome, refl, ap, ◌∙◌, subst, inl, inr}
use Rattle.browser_rules.specs.Forest.{nodes_of}
use Rattle.browser_rules.specs.Headline as chapter
use Rattle.browser_rules.specs.Headline.{after_lines, text_of_script}
use Rattle.browser_rules.specs.Packages.{forms_bytes}
use Rattle.browser_rules.specs.Script.{is_too_long, lines_run}
use Rattle.browser_rules.specs.Session.{State}
use Rattle.browser_rules.specs.Stores.{Stores, image_of, shape_of}
use Rattle.browser_rules.specs.Words.{OutOfMemory, refused_text, refused_at_text}
use Rattle.session_steps.specs.declared.reply.End.TheVariants as end
use Rattle.browser_core.specs.Opening.{Opens}
use Rattle.browser_core.specs.Run.{outcome_of, shown_after_lines}
use Rattle.browser_core.specs.Shown.{Shown, shown_line}
use Rattle.setup_files.specs.declared.given.Given.{Given}
use Rattle.setup_serving.specs.Headline.{ServesBytes, given_for}
use Rattle.setup_serving.specs.Serving.{Ends, IsWritten, ScriptLeaves, image_submitted}
use Rattle.setup_serving.specs.declared.serving.Ended.{Ended}
use Rattle.setup_serving.specs.declared.serving.Ended.TheVariants.{Done, Refused, ReadScript, WriteAnswers, WriteOut, NoMemory}

pub state_after : (shown : Shown) (lines : List (List ℕ)) → (shown_after_lines shown lines).state ≡ after_lines shown.state lines
state_after shown [] = refl
state_after shown (line ∷ lines) = state_after (shown_line shown line) lines

-- whether a script is too long, by how it ended
pub is_done : (b : Bool) → end.Done ≡ (if b then end.TooLong else end.Done) → b ≡ false
is_done true e = absurd (cc)
is_done false e = refl

is_cut : (b : Bool) → end.TooLong ≡ (if b then end.TooLong else end.Done) → b ≡ true
is_cut true e = refl
is_cut false e = absurd (cc)

pub image_same : (given : Given) (script : List ℕ) (stores : Stores) (shown : Shown) → shown.state ≡ chapter.begins (given_for given script) stores
    → image_submitted given (outcome_of shown script).shown ≡ chapter.image_left (given_for given script) stores
image_same given script stores shown begins =
    let guid = (shape_of (nodes_of (forms_bytes given.list.now given.forms))).guid in
    ap (λ (s : State). image_of guid s.committed) (state_after shown (lines_run script)) ∙ ap (λ (s : State). image_of guid (after_lines s (lines_run script)).committed) begins

-- a session over what is given ran the script
runs : (given : Given) (script : List ℕ) (ended : chapter.Ended) (shown : Shown) (image : Option (List ℕ)) → (opens : Opens given.list.now given.forms given.stores.now given.lang.now shown.state)
    → ended ≡ (if is_too_long script then chapter.Refused else chapter.Done) → image ≡ (if is_too_long script then None else Some (chapter.image_left (given_for given script) opens.stores))
    → chapter.Runs (given_for given script) (record { ended = ended; answers = text_of_script shown.state script; image = image })
runs given script ended shown image opens how left = record {
  stores = opens.stores;
  opened = record { sound = opens.sound; spelled = opens.spelled };
  answers = ap (λ (s : State). text_of_script s script) opens.begins;
  ended = how;
  image = left;
}

pub serves_bytes : (given : Given) (script : List ℕ) (before after : Ends) (ended : Ended) → ScriptLeaves given script before ended after → ServesBytes given script before ended after
serves_bytes given script before after Done h =
    let run = h.0 in
    let opens = run.starts.0 in
    let short : is_too_long script ≡ false = is_done (is_too_long script) run.ends in
    let image = chapter.image_left (given_for given script) opens.stores in
    record {
      answers = text_of_script run.start.state script;
      image = Some image;
      serves = inl (runs given script chapter.Done run.start (Some image) opens (rw short refl) (rw short refl));
      told = run.text;
      left = subst (IsWritten before.out after.out) (image_same given script opens.stores run.start opens.begins) h.1;
    }
serves_bytes given script before after Refused (untouched, inl refused) = record {
  answers = refused_at_text refused.fault.cause refused.fault.place;
  image = None;
  serves = inr (inl (record { fault = refused.fault; least = refused.least; answers = refl; ended = refl; image = refl }));
  told = refused.text;
  left = untouched;
}
serves_bytes given script before after Refused (untouched, inr run) =
    let long : is_too_long script ≡ true = is_cut (is_too_long script) run.ends in
    record {
      answers = text_of_script run.start.state script;
      image = None;
      serves = inl (runs given script chapter.Refused run.start None run.starts.0 (rw long refl) (rw long refl));
      told = run.text;
      left = untouched;
    }
serves_bytes given script before after ReadScript h = tt
serves_bytes given script before after WriteAnswers h = tt
serves_bytes given script before after WriteOut h = tt
serves_bytes given script before after NoMemory (untouched, lacks) = record {
  answers = refused_text OutOfMemory;
  image = None;
  serves = inr (inr (record { answers = refl; ended = refl; image = refl }));
  told = lacks.text;
  left = untouched;
}

pub serves_headline : (given : Given) (before after : Ends) (ended : Ended) (known : Option (List ℕ)) → IfSome known (λ script. ScriptLeaves given script before ended after) → IfSome known (λ script. ServesBytes given script before ended after)
serves_headline given before after ended None h = tt
serves_headline given before after ended (Some script) h = serves_bytes given script before after ended h
