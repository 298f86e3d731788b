use Rattle.std.proofs.Common.{◌≡◌, ℕ, List, [], ◌∷◌, ◌++◌, None, ap, ◌∙◌}
use Rattle.std.specs.Prelude.{bytes_eq}
use Rattle.std.specs.Map.{lookup}
use Rattle.indexmap.proofs.CallerLemmas.{insert_entry-new}
use Rattle.p3l_types.specs.Constants.{Constants}
use Rattle.p3l_c_print.specs.declared.names.VariablePlace.{VariablePlace}
use Rattle.p3l_c_print.specs.Name.{Names}
use Rattle.p3l_c_print.proofs.names.Names.add.Goals as goal

names : List (List ℕ × VariablePlace) → Constants → ℕ → Names
names places constants home = record { places = places; constants = constants; home = home }

pub returns : goal.returns
unfolding names
returns c =
    let absent : lookup (bytes_eq c.args.name) c.self.inside.places.entries ≡ None = ap (λ (n : Names). lookup (bytes_eq c.args.name) n.places) c.self.view_is ∙ c.requires in
    let added = c.in_ok-insert.ensures.entries ∙ insert_entry-new bytes_eq c.self.inside.places c.args.name c.args.place absent in
    ap (λ places. names places c.self.inside.consts.now c.self.inside.home) added
    ∙ ap (λ (n : Names). names (n.places ++ (c.args.name, c.args.place) ∷ []) n.constants n.home) c.self.view_is
