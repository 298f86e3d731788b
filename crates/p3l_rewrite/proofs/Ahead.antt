-- The names ahead only affect refusals: a program that is accepted is accepted part by part.
use Rattle.std.proofs.Common.{◌≡◌, ℕ, Bool, true, false, List, [], ◌∷◌, ◌++◌, map, length, Option, Some, None, Result, Ok, Err, refl, ap, ◌∙◌}
use Rattle.std.specs.Option.{option_map_or}
use Rattle.p3l_ast.specs.declared.refusal.SourceRefusal.{SourceRefusal}
use Rattle.p3l_ast.specs.declared.call.Call.{Call}
use Rattle.p3l_ast.specs.declared.module.Kind.{Kind}
use Rattle.p3l_ast.specs.declared.module.Kind.TheVariants as kinds
use Rattle.p3l_ast.specs.Tree.{ModuleTree, EntryTree, constant, defined}
use Rattle.p3l_types.specs.Verdict.{given}
use Rattle.p3l_types.specs.Constants.{Constants}
use Rattle.p3l_body.specs.declared.var.Var.{Var}
use Rattle.p3l_body.specs.declared.ports.Ports.{Ports}
use Rattle.p3l_body.specs.Scope.{Names, named}
use Rattle.p3l_check.specs.declared.skeleton.Skeleton.{Skeleton}
use Rattle.p3l_check.specs.declared.defined.Defined.{Defined}
use Rattle.p3l_check.specs.Modules.{Modules, number_of}
use Rattle.p3l_check.specs.Environment.{Before}
use Rattle.p3l_check.specs.Places.{defines}
use Rattle.p3l_check.specs.Callee.{runnable_callee, called, operator_called}
use Rattle.std.specs.Prelude.{◌==◌}
use Rattle.p3l_check.specs.Modules.{ports_at}
use Rattle.p3l_check.specs.Inside.{calls_of, call_of, turning_of}
use Rattle.p3l_check.specs.Clauses.{farm_workers, turns_of, tokens_of, rescue_in}
use Rattle.p3l_check.specs.Entry.{ports_in, new_name}
use Rattle.p3l_check.specs.Skeleton.{loop_rule, handed_on, staged, stages, skeleton_of}
use Rattle.p3l_check.specs.Entry.{Checked, defined_in, checked_entry, checked_entries}
use Rattle.p3l_rewrite.proofs.Added.{given_of}

-- an answer of the first result is the answer of the second too
pub record Keeps (A : Type 0) (r s : Result A SourceRefusal) : Type 0 where
  pub keep : (x : A) → r ≡ Ok x → s ≡ Ok x

same_keeps : {A : Type 0} (r : Result A SourceRefusal) → Keeps A r r
same_keeps r = record { keep = λ x e. e }

then_keeps : {A B : Type 0} {r s : Result A SourceRefusal} (go its_go : A → Result B SourceRefusal) → Keeps A r s → ((x : A) → Keeps B (go x) (its_go x)) → Keeps B (given r go) (given s its_go)
then_keeps {A} {B} {r} {s} go its_go first each = record {
  keep = λ y e.
      let g = given_of r go y e in
      ap (λ t. given t its_go) (first.keep g.value g.is) ∙ (each g.value).keep y g.then_is;
}

-- the same, where what comes after is the same
first_keeps : {A B : Type 0} {r s : Result A SourceRefusal} (go : A → Result B SourceRefusal) → Keeps A r s → Keeps B (given r go) (given s go)
first_keeps go first = then_keeps go go first (λ x. same_keeps (go x))

after_keeps : {A B : Type 0} (r : Result A SourceRefusal) (go its_go : A → Result B SourceRefusal) → ((x : A) → Keeps B (go x) (its_go x)) → Keeps B (given r go) (given r its_go)
after_keeps r go its_go each = then_keeps go its_go (same_keeps r) each

number_keeps : (o : Option ℕ) (f g : SourceRefusal) → Keeps ℕ (option_map_or Ok o (Err f)) (option_map_or Ok o (Err g))
number_keeps None f g = record { keep = λ x e. absurd cc }
number_keeps (Some k) f g = same_keeps (Ok k)

module _ (constants : Constants) (modules : Modules) (ahead other : List ℕ → Bool) where
  abbrev one : Before
  one = record { constants = constants; modules = modules; is_ahead = ahead }

  abbrev two : Before
  two = record { constants = constants; modules = modules; is_ahead = other }

  callee_keeps : (in_process : Bool) (call : Call) → Keeps ℕ (runnable_callee in_process one call) (runnable_callee in_process two call)
  callee_keeps in_process call = first_keeps _ (number_keeps (number_of modules call.at.name) _ _)

  called_keeps : (in_process : Bool) (call : Call) → Keeps ℕ (called in_process one call) (called in_process two call)
  called_keeps in_process call = first_keeps _ (callee_keeps in_process call)

  operator_keeps : (call : Call) → Keeps ℕ (operator_called one call) (operator_called two call)
  operator_keeps call = first_keeps _ (callee_keeps true call)

  staged_keeps : (in_process : Bool) (names : Names) (taken outs : List Var) (cs : List Call) → Keeps (List ℕ) (staged in_process one names taken outs cs) (staged in_process two names taken outs cs)
  staged_keeps in_process names taken outs [] = same_keeps _
  staged_keeps in_process names taken outs (c ∷ cs) =
      then_keeps _ _ (called_keeps in_process c)
      (λ k. after_keeps (handed_on one names taken outs (length cs == 0) (ports_at modules k) c) _ _ (λ vars. first_keeps _ (staged_keeps in_process (names ++ map (named false) vars) vars outs cs)))

  stages_keeps : (in_process : Bool) (m : ModuleTree) (ports : Ports) → Keeps (List ℕ) (stages in_process one m ports) (stages in_process two m ports)
  stages_keeps in_process m ports = after_keeps (calls_of m.at.pos m.inside) _ _ (λ cs. staged_keeps in_process _ _ _ cs)

  skeleton_keeps : (kind : Kind) (m : ModuleTree) (ports : Ports) → Keeps Skeleton (skeleton_of kind one m ports) (skeleton_of kind two m ports)
  skeleton_keeps kinds.Seq m ports = same_keeps _
  skeleton_keeps kinds.Comp m ports = first_keeps _ (stages_keeps true m ports)
  skeleton_keeps kinds.Pipe m ports = first_keeps _ (stages_keeps false m ports)
  skeleton_keeps kinds.Farm m ports = after_keeps (farm_workers constants m.clauses.workers) _ _ (λ w. after_keeps (call_of m.at.pos m.inside) _ _ (λ c. first_keeps _ (called_keeps false c)))
  skeleton_keeps kinds.Map m ports = after_keeps (call_of m.at.pos m.inside) _ _ (λ c. first_keeps _ (called_keeps false c))
  skeleton_keeps kinds.Reduce m ports = after_keeps (call_of m.at.pos m.inside) _ _ (λ c. first_keeps _ (operator_keeps c))
  skeleton_keeps kinds.Loop m ports =
      after_keeps (turns_of m.at.pos constants m.clauses.turns) _ _ (λ a. after_keeps (tokens_of constants m.clauses.tokens) _ _ (λ b. after_keeps (loop_rule ports m.at) _ _ (λ c. after_keeps (turning_of m.at.pos m.inside) _ _ (λ pair.
      then_keeps _ _ (first_keeps _ (called_keeps false pair.0)) (λ k. first_keeps _ (first_keeps _ (called_keeps true pair.1)))))))

  defined_keeps : (m : ModuleTree) → Keeps Defined (defined_in one m) (defined_in two m)
  defined_keeps m =
      after_keeps (ports_in constants m) _ _
      (λ ports. after_keeps (rescue_in m.kind m.at.pos constants m.clauses) _ _ (λ rescue. first_keeps _ (skeleton_keeps m.kind m ports)))

pub entry_keeps : (checked : Checked) (ahead other : List ℕ → Bool) (entry : EntryTree) → Keeps Checked (checked_entry checked ahead entry) (checked_entry checked other entry)
entry_keeps checked ahead other (constant at value) = same_keeps _
entry_keeps checked ahead other (defined m) =
    after_keeps (new_name checked m.at) _ _ (λ x. first_keeps _ (defined_keeps checked.constants checked.modules ahead other m))

-- entries and others after them
pub record AreParted (checked last : Checked) (front tail : List EntryTree) : Type 0 where
  pub middle : Checked
  pub before : checked_entries checked front ≡ Ok middle
  pub after : checked_entries middle tail ≡ Ok last

pub parted : (checked last : Checked) (front tail : List EntryTree) → checked_entries checked (front ++ tail) ≡ Ok last → AreParted checked last front tail
parted checked last [] tail e = record { middle = checked; before = refl; after = e }
parted checked last (x ∷ front) tail e =
    let g = given_of (checked_entry checked (defines (x ∷ (front ++ tail))) x) (λ next. checked_entries next (front ++ tail)) last e in
    let own = (entry_keeps checked (defines (x ∷ (front ++ tail))) (defines (x ∷ front)) x).keep g.value g.is in
    let rest = parted g.value last front tail g.then_is in record {
      middle = rest.middle;
      before = ap (λ t. given t (λ next. checked_entries next front)) own ∙ rest.before;
      after = rest.after;
    }
