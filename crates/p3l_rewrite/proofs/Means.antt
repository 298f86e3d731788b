-- The best of the ways to write a program means the same.
use Rattle.std.proofs.Common.{◌≡◌, ℕ, zero, suc, List, [], ◌∷◌, ◌++◌, Option, Some, None, Ok, refl, ap, sym, ◌∙◌, subst}
use Rattle.std.specs.Prelude.{slice_get, IfSome}
use Rattle.std.specs.List.{AllByRecursion}
use Rattle.p3l_ast.specs.Tree.{ProgramTree}
use Rattle.p3l_grammar.specs.Grammar.{Spells}
use Rattle.p3l_print.specs.Program.{HasText}
use Rattle.p3l_skel.specs.declared.tree.Tree.{Tree}
use Rattle.p3l_skel.specs.Item.{meaning}
use Rattle.p3l_check.specs.Resolving.{ResolvedTree, resolved}
use Rattle.p3l_compile.specs.Leaves.{body_leaf}
use Rattle.p3l_cost.specs.declared.costs.Costs.{Costs}
use Rattle.p3l_cost.specs.Costs.{AreCostsOf}
use Rattle.p3l_model.specs.Service.{service}
use Rattle.p3l_rewrite.specs.Programs.{IsRewrittenProgram}
use Rattle.p3l_rewrite.specs.Candidates.{others}
use Rattle.p3l_rewrite.proofs.Added.{ok_same}
use Rattle.p3l_rewrite.proofs.Programs.{programs_mean}
use Rattle.p3l_rewrite.proofs.Candidates.{others_are}
use Rattle.p3l_rewrite.specs.Rewriting.{IsAccepted, MeansTheSame, Serves, IsBest, MayBeRewritten, IsRewriting, StaysBest, listed}
use Rattle.p3l_rewrite.specs.Costs.{KeepsCosts}
use Rattle.p3l_rewrite.specs.Serving.{HasTree, IsBestTime}
use Rattle.p3l_rewrite.proofs.Texts.{others_have_texts}
use Rattle.p3l_rewrite.proofs.Costs.{others_keep_costs}
use Rattle.p3l_rewrite.proofs.Best.{one_whole, own_serves}

all_at : {A : Type 0} (P : A → Type 0) (xs : List A) (k : ℕ) (x : A) → AllByRecursion P xs → slice_get xs k ≡ Some x → P x
all_at P [] k x all e = absurd cc
all_at P (y ∷ ys) zero x all e = let same : y ≡ x = cc in subst P same all.0
all_at P (y ∷ ys) (suc k) x all e = all_at P ys k x all.1 e

-- a program means what it means
itself : (program : ProgramTree) → IsAccepted program → MeansTheSame program program
itself program accepted = record {
  accepted = accepted;
  means = λ r e lawful items. ap (λ (w : ResolvedTree). meaning w.tree (body_leaf w.tree w.seqs) items) (same r e);
  numbers = λ r e lawful k low. ap (λ (w : ResolvedTree). slice_get w.tree.modules k) (same r e);
}
  where
    same : (r : ResolvedTree) → resolved program ≡ Ok r → accepted.whole ≡ r
    same r e = ok_same accepted.whole r (sym accepted.resolves ∙ e)

written_otherwise : (program other : ProgramTree) → IsAccepted other → IsRewrittenProgram program other → MeansTheSame program other
written_otherwise program other accepted is = record {
  accepted = accepted;
  means = λ r e lawful. (programs_mean program other r accepted.whole e accepted.resolves lawful accepted.lawful is).0;
  numbers = λ r e lawful. (programs_mean program other r accepted.whole e accepted.resolves lawful accepted.lawful is).1;
}

best_means : (program other : ProgramTree) (tree : Tree) (costs : Costs) (processors time place : ℕ) → Serves tree costs processors other time → slice_get (program ∷ others program tree) place ≡ Some other → MeansTheSame program other
best_means program other tree costs processors time zero serves there =
    let same : program ≡ other = cc in
    subst (MeansTheSame program) same (itself program (subst IsAccepted (sym same) serves.accepted))
best_means program other tree costs processors time (suc k) serves there =
    written_otherwise program other serves.accepted (all_at (IsRewrittenProgram program) (others program tree) k other (others_are program tree) there)

-- and it has a text, where the program has one
best_has_text : (program other : ProgramTree) (tree : Tree) (place : ℕ) (text : List ℕ) → slice_get (program ∷ others program tree) place ≡ Some other → Spells text program → HasText other
best_has_text program other tree zero text there spells =
    let same : program ≡ other = cc in
    subst HasText same (record { text = text; is_text = record { placed = program; spells = spells; same = refl } })
best_has_text program other tree (suc k) text there spells = all_at HasText (others program tree) k other (others_have_texts text program tree spells) there

pub rewriting : (program other : ProgramTree) (tree : Tree) (costs : Costs) (processors time : ℕ) → HasTree program tree
    → IsBest tree costs processors (program ∷ others program tree) other time → IsRewriting program costs processors other time
rewriting program other tree costs processors time has best = record {
  same = best_means program other tree costs processors time best.place best.serves best.there;
  best = λ r e. subst (λ t. IsBest t costs processors (program ∷ others program t) other time) (tree_is r e) best;
  no_greater = λ r counts e chosen.
      best.least 0 (service r.tree costs counts 0) program refl
      (own_serves program tree costs processors (service r.tree costs counts 0) has
      (subst (λ t. IsBestTime t costs processors (service r.tree costs counts 0)) (sym (tree_is r e)) (record { counts = counts; chosen = chosen; time_is = refl })));
  has_text = λ text spells. best_has_text program other tree best.place text best.there spells;
}
  where
    tree_is : (r : ResolvedTree) → resolved program ≡ Ok r → tree ≡ r.tree
    tree_is r e = has.tree_is ∙ ap (λ (w : ResolvedTree). w.tree) (ok_same has.accepted.whole r (sym has.accepted.resolves ∙ e))

-- a program, then two ways to write it that may be there
pub in_turn : (program : ProgramTree) (tree : Tree) (costs : Costs) (processors : ℕ) (a b c : ProgramTree) (m n p : ℕ) (one two : Option ProgramTree) → IsBest tree costs processors (program ∷ []) a m
    → StaysBest tree costs processors a m one b n → StaysBest tree costs processors b n two c p → listed one ++ listed two ≡ others program tree → IsBest tree costs processors (program ∷ others program tree) c p
in_turn program tree costs processors a b c m n p one two first second third are =
    subst (λ l. IsBest tree costs processors (program ∷ l) c p) are
    (third ((program ∷ []) ++ listed one) (second (program ∷ []) first))

-- the costs of the program's tree are costs of the two ways
all_left : (P : ProgramTree → Type 0) (xs ys : List ProgramTree) → AllByRecursion P (xs ++ ys) → AllByRecursion P xs
all_left P [] ys all = tt
all_left P (x ∷ xs) ys all = (all.0, all_left P xs ys all.1)

all_right : (P : ProgramTree → Type 0) (xs ys : List ProgramTree) → AllByRecursion P (xs ++ ys) → AllByRecursion P ys
all_right P [] ys all = all
all_right P (x ∷ xs) ys all = all_right P xs ys all.1

module _ (program : ProgramTree) (tree : Tree) (costs : Costs) (processors : ℕ) (may : MayBeRewritten program costs processors) (has : HasTree program tree) where
  keep_costs : AllByRecursion (KeepsCosts tree costs) (others program tree)
  keep_costs =
      let same : may.accepted.whole ≡ has.accepted.whole = one_whole program may.accepted has.accepted in
      let are : AreCostsOf has.accepted.whole.tree costs = subst (λ (w : ResolvedTree). AreCostsOf w.tree costs) same may.costs_are in
      subst (λ t. AllByRecursion (KeepsCosts t costs) (others program t)) (sym has.tree_is)
      (others_keep_costs program has.accepted.whole costs has.accepted.resolves has.accepted.lawful are)

  if_listed : (o : Option ProgramTree) → AllByRecursion (KeepsCosts tree costs) (listed o) → IfSome o (KeepsCosts tree costs)
  if_listed None all = tt
  if_listed (Some p) all = all.0

  pub first_keeps : (one two : Option ProgramTree) → listed one ++ listed two ≡ others program tree → IfSome one (KeepsCosts tree costs)
  first_keeps one two are = if_listed one (all_left (KeepsCosts tree costs) (listed one) (listed two) (subst (AllByRecursion (KeepsCosts tree costs)) (sym are) keep_costs))

  pub second_keeps : (one two : Option ProgramTree) → listed one ++ listed two ≡ others program tree → IfSome two (KeepsCosts tree costs)
  second_keeps one two are = if_listed two (all_right (KeepsCosts tree costs) (listed one) (listed two) (subst (AllByRecursion (KeepsCosts tree costs)) (sym are) keep_costs))
