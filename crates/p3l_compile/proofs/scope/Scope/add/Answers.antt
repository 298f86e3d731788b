use Rattle.std.proofs.Common.{◌≡◌, ℕ, List, [], ◌∷◌, ◌++◌, None, ap, ◌∙◌}
use Rattle.std.specs.Prelude.{bytes_eq}
use Rattle.std.specs.Map.{lookup}
use Rattle.indexmap.proofs.CallerLemmas.{insert_entry-new}
use Rattle.p3l_types.specs.Constants.{Constants}
use Rattle.p3l_compile.specs.declared.scope.Slot.{Slot}
use Rattle.p3l_compile.specs.Scope.{Names}
use Rattle.p3l_compile.proofs.scope.Scope.add.Goals as goal

names : List (List ℕ × Slot) → Constants → Names
names slots constants = record { slots = slots; constants = constants }

pub returns : goal.returns
unfolding names
returns c =
    let absent : lookup (bytes_eq c.args.name) c.self.inside.slots.entries ≡ None = ap (λ (n : Names). lookup (bytes_eq c.args.name) n.slots) c.self.view_is ∙ c.requires in
    let added = c.in_ok-insert.ensures.entries ∙ insert_entry-new bytes_eq c.self.inside.slots c.args.name c.args.slot absent in
    ap (λ slots. names slots c.self.inside.consts.now) added
    ∙ ap (λ (n : Names). names (n.slots ++ (c.args.name, c.args.slot) ∷ []) n.constants) c.self.view_is
