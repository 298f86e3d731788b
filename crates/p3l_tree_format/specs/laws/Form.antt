-- The forms of nodes are read as they are spelled.
use Rattle.std.proofs.Common.{◌≡◌, ℕ, zero, suc, true, Option, Some, None, refl}
use Rattle.std.proofs.Math.Dec.{eqb-suc-zero}
use Rattle.p3l_base.specs.Limits.{most_tokens, most_turns, most_words, most_workers}
use Rattle.p3l_skel.specs.declared.tree.Form.{Form}
use Rattle.p3l_skel.specs.declared.tree.Form.TheVariants as form
use Rattle.p3l_skel.specs.declared.tree.ModuleKind.{ModuleKind}
use Rattle.p3l_skel.specs.declared.tree.ModuleKind.TheVariants as kind
use Rattle.p3l_format.specs.Lawful.{IsLawful}
use Rattle.p3l_format.specs.laws.Formats.{lawful_both, lawful_form, lawful_nothing}
use Rattle.p3l_format.specs.laws.Numbers.{lawful_u32_in}
use Rattle.p3l_tree_format.specs.Form.{is_form, clause_of, clause_number, is_clause, clause_format, workers_of, cut_of, fold_of, loop_of, form_format}
use Rattle.p3l_tree_format.specs.laws.Slice.{lawful_cut}

pub clause_fine : (n : ℕ) → is_clause (clause_of n) ≡ true
clause_fine zero = refl
clause_fine (suc n) = rw (eqb-suc-zero n) refl

pub clause_back : (n : ℕ) → clause_number (clause_of n) ≡ n
clause_back zero = refl
clause_back (suc n) = rw (eqb-suc-zero n) refl

pub clause_there : (v : Option ℕ) → is_clause v ≡ true → clause_of (clause_number v) ≡ v
clause_there None e = refl
clause_there (Some zero) e = absurd cc
clause_there (Some (suc n)) e = rw (eqb-suc-zero n) refl

pub lawful_clause : IsLawful clause_format
unfolding clause_format
lawful_clause = lawful_form _ _ _ _ (record { back = λ n _. clause_back n; fine = λ n _. clause_fine n; there = clause_there }) (lawful_u32_in 0 most_workers)

pub only_seq : (v : Form) → is_form kind.Seq v ≡ true → form.Seq ≡ v
only_seq form.Seq e = refl
only_seq _ e = absurd cc

pub only_comp : (v : Form) → is_form kind.Comp v ≡ true → form.Comp ≡ v
only_comp form.Comp e = refl
only_comp _ e = absurd cc

pub only_pipe : (v : Form) → is_form kind.Pipe v ≡ true → form.Pipe ≡ v
only_pipe form.Pipe e = refl
only_pipe _ e = absurd cc

pub farm_there : (v : Form) → is_form kind.Farm v ≡ true → form.Farm (workers_of v) ≡ v
farm_there (form.Farm w) e = refl
farm_there _ e = absurd cc

pub map_there : (v : Form) → is_form kind.Map v ≡ true → form.Map (workers_of v) (cut_of v) ≡ v
map_there (form.Map w cut) e = refl
map_there _ e = absurd cc

pub reduce_there : (v : Form) → is_form kind.Reduce v ≡ true → form.Reduce (workers_of v) (fold_of v).0 (fold_of v).1 ≡ v
reduce_there (form.Reduce w len elem) e = refl
reduce_there _ e = absurd cc

pub loop_there : (v : Form) → is_form kind.Loop v ≡ true → form.Loop (loop_of v).0 (loop_of v).1 ≡ v
loop_there (form.Loop turns tokens) e = refl
loop_there _ e = absurd cc

pub lawful_form_of : (k : ModuleKind) → IsLawful (form_format k)
unfolding form_format
lawful_form_of kind.Seq = lawful_nothing _ _ refl only_seq
lawful_form_of kind.Comp = lawful_nothing _ _ refl only_comp
lawful_form_of kind.Pipe = lawful_nothing _ _ refl only_pipe
lawful_form_of kind.Farm = lawful_form _ _ _ _ (record { back = λ _ _. refl; fine = λ _ _. refl; there = farm_there }) lawful_clause
lawful_form_of kind.Map = lawful_form _ _ _ _ (record { back = λ _ _. refl; fine = λ _ _. refl; there = map_there }) (lawful_both _ _ lawful_clause lawful_cut)
lawful_form_of kind.Reduce = lawful_form _ _ _ _ (record { back = λ _ _. refl; fine = λ _ _. refl; there = reduce_there })
    (lawful_both _ _ lawful_clause (lawful_both _ _ (lawful_u32_in 1 most_words) (lawful_u32_in 1 most_words)))
lawful_form_of kind.Loop = lawful_form _ _ _ _ (record { back = λ _ _. refl; fine = λ _ _. refl; there = loop_there }) (lawful_both _ _ (lawful_u32_in 1 most_turns) (lawful_u32_in 1 most_tokens))
