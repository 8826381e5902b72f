use Rattle.std.proofs.Common.{◌≡◌, List, [], ◌∷◌, ◌++◌, ap, ◌∙◌}
use Rattle.ifr_expr.specs.code.Expressions.{tree_of}
use Rattle.ifr_nodes.specs.code.Rules.{rules_of}
use Rattle.ifr_scopes.specs.declared.dependence.Frame.{Frame}
use Rattle.ifr_scopes.proofs.FrameLemmas.{first_room, first_ids}
use Rattle.ifr_scopes.proofs.NamedSizeLemmas.{are_shallow}
use Rattle.ifr_scopes.proofs.forms.Forms.dependence.Goals as goal

pub invariant_of-result : goal.invariant_of-result
invariant_of-result c =
    let frame : Frame = record { names = c.names.result; this = c.args.this } in
    let one : c.push.new.self.items ≡ [] ++ frame ∷ [] = c.push.ensures.items ∙ ap (λ (l : List Frame). l ++ frame ∷ []) c.new-frames.ensures in
    record { room = first_room (rules_of c.args.self.now) c.push.new.self.items frame one (are_shallow c.args.self.now c.bytes.ensures.accepted) }

pub returns : goal.returns
returns c =
    let frame : Frame = record { names = c.names.result; this = c.args.this } in
    let one : c.push.new.self.items ≡ [] ++ frame ∷ [] = c.push.ensures.items ∙ ap (λ (l : List Frame). l ++ frame ∷ []) c.new-frames.ensures in
    first_ids (rules_of c.args.self.now) c.push.new.self.items frame (tree_of c.args.expr) one c.names.ensures
