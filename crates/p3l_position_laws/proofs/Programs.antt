-- The rules of programs do not depend on positions.
use Rattle.std.proofs.Common.{◌≡◌, ℕ, ◌||◌, Bool, true, false, List, [], ◌∷◌, map, length, Ok, Option, Some, None, refl, ap, sym, ◌∙◌}
use Rattle.std.specs.Prelude.{is_some, option_map, bytes_eq, if◌then◌else◌}
use Rattle.std.proofs.lemmas.List.{map-append}
use Rattle.p3l_ast.specs.declared.position.Spot.{Spot}
use Rattle.p3l_ast.specs.declared.position.Pos.{Pos}
use Rattle.p3l_ast.specs.declared.refusal.Fault.TheVariants.{Twice, NoMain, TooDeep, TooManyInstances, TooHeavy}
use Rattle.p3l_ast.specs.declared.module.Kind.{Kind}
use Rattle.p3l_ast.specs.declared.module.Kind.TheVariants as kinds
use Rattle.p3l_ast.specs.Tree.{ModuleTree, EntryTree, constant, ProgramTree}
use Rattle.p3l_ast.specs.Tree as tree
use Rattle.p3l_ast.specs.Unplaced.{nowhere, spot_unplaced, module_unplaced, entry_unplaced, program_unplaced}
use Rattle.p3l_types.specs.Verdict.{broken_if, first_of}
use Rattle.p3l_types.specs.Constants.{Constants, constant_of}
use Rattle.p3l_body.specs.Seq.{SeqTree}
use Rattle.p3l_check.specs.declared.defined.Defined.{Defined}
use Rattle.p3l_check.specs.Modules.{Modules, number_of}
use Rattle.p3l_check.specs.Places.{defines}
use Rattle.p3l_check.specs.Entry.{Checked, none_checked, new_name, body_in, with_body, with_checked, before_in, checked_module, checked_entry, checked_entries}
use Rattle.p3l_check.specs.Resolving.{main_name, main_place, limits_rule, whole, resolved}
use Rattle.p3l_position_laws.specs.Forgetting.{forget, settled}
use Rattle.p3l_position_laws.specs.Bodies.{seq_unplaced}
use Rattle.p3l_position_laws.specs.Checked.{checked_unplaced, resolved_unplaced}
use Rattle.p3l_position_laws.proofs.Forgetting.{settles, carries, found_passes, broken_passes, first_passes}
use Rattle.p3l_position_laws.proofs.Bodies.{seq_settles}
use Rattle.p3l_position_laws.proofs.Modules.{defined_passes}

body_in_settles : (kind : Kind) (constants : Constants) (home : ℕ) (m : ModuleTree) → body_in kind constants home (module_unplaced m) ≡ settled (option_map seq_unplaced) (body_in kind constants home m)
body_in_settles kinds.Seq constants home m = carries seq_unplaced _ _ _ _ _ (seq_settles constants home m) (λ seq. refl)
body_in_settles kinds.Comp constants home m = refl
body_in_settles kinds.Pipe constants home m = refl
body_in_settles kinds.Farm constants home m = refl
body_in_settles kinds.Map constants home m = refl
body_in_settles kinds.Reduce constants home m = refl
body_in_settles kinds.Loop constants home m = refl

bodies_same : (seqs : List SeqTree) (seq : Option SeqTree) → with_body (map seq_unplaced seqs) (option_map seq_unplaced seq) ≡ map seq_unplaced (with_body seqs seq)
bodies_same seqs None = refl
bodies_same seqs (Some seq) = sym (map-append seq_unplaced seqs (seq ∷ []))

with_same : (checked : Checked) (defined : Defined) (seq : Option SeqTree) → with_checked (checked_unplaced checked) defined (option_map seq_unplaced seq) ≡ checked_unplaced (with_checked checked defined seq)
with_same checked defined seq = let p = bodies_same checked.seqs seq in cc

module_settles : (checked : Checked) (ahead its : List ℕ → Bool) → ((name : List ℕ) → its name ≡ ahead name) → (m : ModuleTree)
    → checked_module (checked_unplaced checked) its (module_unplaced m) ≡ settled checked_unplaced (checked_module checked ahead m)
module_settles checked ahead its same m =
    settles checked_unplaced _ _ _ _ (defined_passes (before_in checked ahead) its same m)
    (λ defined. carries (option_map seq_unplaced) checked_unplaced _ _ _ _ (body_in_settles m.kind checked.constants (length checked.modules.infos) m)
    (λ seq. ap Ok (with_same checked defined seq)))

new_name_passes : (checked : Checked) (at : Spot) → new_name (checked_unplaced checked) (spot_unplaced at) ≡ forget (new_name checked at)
new_name_passes checked at =
    broken_passes (is_some (constant_of checked.constants at.name) || is_some (number_of checked.modules at.name)) _ Twice at.pos refl

entry_settles : (checked : Checked) (ahead its : List ℕ → Bool) → ((name : List ℕ) → its name ≡ ahead name) → (entry : EntryTree)
    → checked_entry (checked_unplaced checked) its (entry_unplaced entry) ≡ settled checked_unplaced (checked_entry checked ahead entry)
entry_settles checked ahead its same (constant at value) = settles checked_unplaced _ _ _ _ (new_name_passes checked at) (λ x. refl)
entry_settles checked ahead its same (tree.defined m) =
    settles checked_unplaced _ _ _ _ (new_name_passes checked m.at) (λ x. module_settles checked ahead its same m)

defines_same : (entries : List EntryTree) (name : List ℕ) → defines (map entry_unplaced entries) name ≡ defines entries name
defines_same [] name = refl
defines_same (constant at value ∷ entries) name = let p = defines_same entries name in cc
defines_same (tree.defined m ∷ entries) name = let p = defines_same entries name in cc

entries_settle : (checked : Checked) (entries : List EntryTree) → checked_entries (checked_unplaced checked) (map entry_unplaced entries) ≡ settled checked_unplaced (checked_entries checked entries)
entries_settle checked [] = refl
entries_settle checked (entry ∷ entries) =
    carries checked_unplaced checked_unplaced _ _ _ _
    (entry_settles checked (defines (entry ∷ entries)) (defines (map entry_unplaced (entry ∷ entries))) (defines_same (entry ∷ entries)) entry)
    (λ next. entries_settle next entries)

if_nowhere : (b : Bool) (q : Pos) → q ≡ nowhere → (if b then nowhere else q) ≡ nowhere
if_nowhere true q e = refl
if_nowhere false q e = e

main_nowhere : (entries : List EntryTree) → main_place nowhere (map entry_unplaced entries) ≡ nowhere
main_nowhere [] = refl
main_nowhere (constant at value ∷ entries) = if_nowhere (bytes_eq at.name main_name) _ (main_nowhere entries)
main_nowhere (tree.defined m ∷ entries) = if_nowhere (bytes_eq m.at.name main_name) _ (main_nowhere entries)

limits_pass : (a b c : Bool) (p : Pos) → first_of (broken_if a TooDeep nowhere ∷ (broken_if b TooManyInstances nowhere ∷ (broken_if c TooHeavy nowhere ∷ [])))
    ≡ forget (first_of (broken_if a TooDeep p ∷ (broken_if b TooManyInstances p ∷ (broken_if c TooHeavy p ∷ []))))
limits_pass a b c p =
    first_passes _ _ _ _ (broken_passes a _ TooDeep p refl)
    (first_passes _ _ _ _ (broken_passes b _ TooManyInstances p refl)
    (first_passes _ _ _ _ (broken_passes c _ TooHeavy p refl) refl))

limits_rule_passes : (at : Pos) (modules : Modules) (root : ℕ) → limits_rule nowhere modules root ≡ forget (limits_rule at modules root)
limits_rule_passes at modules root = limits_pass _ _ _ at

whole_settles : (program : ProgramTree) (checked : Checked) → whole (program_unplaced program) (checked_unplaced checked) ≡ settled resolved_unplaced (whole program checked)
whole_settles program checked =
    settles resolved_unplaced _ _ _ _ (found_passes (number_of checked.modules main_name) NoMain program.end)
    (λ root. settles resolved_unplaced _ _ _ _
    (ap (λ at. limits_rule at checked.modules root) (main_nowhere program.entries)
    ∙ limits_rule_passes (main_place program.end program.entries) checked.modules root)
    (λ x. refl))

-- a program without positions comes to what it comes to with them
pub resolved_settles : (program : ProgramTree) → resolved (program_unplaced program) ≡ settled resolved_unplaced (resolved program)
resolved_settles program =
    carries checked_unplaced resolved_unplaced _ _ _ _ (entries_settle none_checked program.entries) (whole_settles program)
