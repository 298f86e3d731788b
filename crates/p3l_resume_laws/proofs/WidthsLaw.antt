-- Channels of typed nets carry few words: by the process that writes each.
use Rattle.std.proofs.Common.{◌≡◌, ℕ, zero, suc, ◌+◌, ◌*◌, ◌<◌, ◌≤◌, ◌==◌, cond, List, [], ◌∷◌, ◌++◌, length, Some, slice_get, slice_index, slice_index_or, refl, sym, ap, subst, inl, inr, arith}
use Rattle.std.specs.List.{AllByRecursion}
use Rattle.std.proofs.lemmas.Bool.{cases_Bool, cases_lt, cond-false, eqb-true}
use Rattle.std.proofs.lemmas.List.Sums.{sum_by-cons}
use Rattle.std.proofs.lemmas.Nat.{mul-le}
use Rattle.p3l_skel.specs.declared.tree.Node.{Node}
use Rattle.p3l_skel.specs.declared.tree.Tree.{Tree}
use Rattle.p3l_skel.specs.Lawful.{IsLawfulTree}
use Rattle.p3l_skel.specs.Tree.{no_node, node_at, part_at}
use Rattle.p3l_skel.proofs.Depth.{lawful_at}
use Rattle.p3l_firing.specs.declared.process.Proc.{Proc}
use Rattle.p3l_firing.specs.declared.process.ProcKind.{ProcKind}
use Rattle.p3l_firing.specs.declared.process.ProcKind.TheVariants as kinds
use Rattle.p3l_firing.specs.Process.{Has, all_outs, out_of, times}
use Rattle.p3l_firing.specs.Segments.{halved, level_of, segment_length, segment_lengths}
use Rattle.p3l_firing.specs.Typed.{FitsKind}
use Rattle.p3l_firing.specs.Widths.{AllCarry, Widths}
use Rattle.p3l_firing.proofs.LawfulForms.{reduce_part}
use Rattle.p3l_firing.proofs.Places.{all-has}
use Rattle.p3l_resume_laws.specs.Widths.{EveryWidthIsSmall}

all-append : (P : ℕ → Type 0) (xs ys : List ℕ) → AllByRecursion P xs → AllByRecursion P ys → AllByRecursion P (xs ++ ys)
all-append P [] ys all more = more
all-append P (x ∷ xs) ys all more = (all.0, all-append P xs ys all.1 more)

all_from : (P : ℕ → Type 0) (cs : List ℕ) → ((k : ℕ) → k < length cs → P (slice_index cs k)) → AllByRecursion P cs
all_from P [] each = tt
all_from P (c ∷ cs) each = (each 0 (omega arith), all_from P cs (λ k low. each (suc k) (omega arith)))

-- a number that is counted stands in the list
pub counted_has : (cs : List ℕ) (c : ℕ) → 1 ≤ times c cs → Has cs c
counted_has [] c some = absurd (omega (arith, some))
counted_has (d ∷ cs) c some =
    elim (cases_Bool (d == c)) [
      | inl same ↦ inl (eqb-true d c same)
      | inr other ↦
          let split : times c (d ∷ cs) ≡ cond (d == c) 1 0 + times c cs = sum_by-cons (λ x. cond (x == c) 1 0) d cs in
          let none : cond {A = ℕ} (d == c) 1 0 ≡ 0 = cond-false (d == c) 1 0 other in
          inr (counted_has cs c (omega (arith, split, none, some)))
    ]

-- no segment is longer than the whole
halved_few : (most : ℕ) (ls : List ℕ) → AllByRecursion (λ l. l ≤ most) ls → AllByRecursion (λ l. l ≤ most) (halved ls)
unfolding halved
halved_few most [] all = tt
halved_few most (l ∷ ls) all = let few = all.0 in (omega (arith, few), (omega (arith, few), halved_few most ls all.1))

lengths_few : (level len : ℕ) → AllByRecursion (λ l. l ≤ len) (segment_lengths level len)
unfolding segment_lengths
lengths_few zero len = (omega arith, tt)
lengths_few (suc level) len = halved_few len (segment_lengths level len) (lengths_few level len)

nth_few : (most : ℕ) (ls : List ℕ) (k : ℕ) → AllByRecursion (λ l. l ≤ most) ls → slice_index ls k ≤ most
nth_few most [] k all = omega arith
nth_few most (l ∷ ls) zero all = all.0
nth_few most (l ∷ ls) (suc k) all = nth_few most ls k all.1

past_nodes : (nodes : List Node) (k : ℕ) → length nodes ≤ k → slice_index_or nodes k no_node ≡ no_node
past_nodes [] k past = refl
past_nodes (n ∷ nodes) zero past = absurd (omega (arith, past))
past_nodes (n ∷ nodes) (suc k) past = past_nodes nodes k (omega (arith, past))

module _ (tree : Tree) (lawful : IsLawfulTree tree) where
  pub few_ins : (k : ℕ) → (node_at tree k).ins ≤ 65536
  few_ins k =
      elim (cases_lt k (length tree.nodes)) [
        | inl inside ↦ (lawful_at tree lawful k inside).ins.1
        | inr past ↦ (let none = ap (λ (n : Node). n.ins) (past_nodes tree.nodes k past) in omega (arith, none))
      ]

  pub few_outs : (k : ℕ) → (node_at tree k).outs ≤ 65536
  few_outs k =
      elim (cases_lt k (length tree.nodes)) [
        | inl inside ↦ (lawful_at tree lawful k inside).outs.1
        | inr past ↦ (let none = ap (λ (n : Node). n.outs) (past_nodes tree.nodes k past) in omega (arith, none))
      ]

  module _ (widths : Widths) where
    abbrev IsFew : ℕ → Type 0
    IsFew c = widths.words c ≤ 65536

    as_few : (c n : ℕ) → widths.words c ≡ n → n ≤ 65536 → IsFew c
    as_few c n same few = omega (arith, same, few)

    carry_few : (cs : List ℕ) (n t : ℕ) → AllCarry widths cs n t → n ≤ 65536 → AllByRecursion IsFew cs
    carry_few [] n t all few = tt
    carry_few (c ∷ cs) n t all few = (as_few c n all.0.words few, carry_few cs n t all.1 few)

    one_few : (q : Proc) (n : ℕ) → q.outs ≡ out_of q 0 ∷ [] → widths.words (out_of q 0) ≡ n → n ≤ 65536 → AllByRecursion IsFew q.outs
    one_few q n one same few = subst (AllByRecursion IsFew) (sym one) (as_few (out_of q 0) n same few, tt)

    -- a process writes channels of few words
    writes_few : (q : Proc) (k : ProcKind) → FitsKind k tree widths q → AllByRecursion IsFew q.outs
    writes_few q kinds.Source fits = one_few q _ fits.outs fits.gives.words (few_ins 0)
    writes_few q kinds.Sink fits = subst (AllByRecursion IsFew) (sym fits.outs) tt
    writes_few q kinds.Run fits = one_few q _ fits.outs fits.gives.words (few_outs q.node)
    writes_few q kinds.Emit fits = carry_few q.outs _ _ fits.gives (few_ins q.node)
    writes_few q kinds.Collect fits = one_few q _ fits.outs fits.gives (few_outs q.node)
    writes_few q kinds.Scatter fits = carry_few q.outs _ _ fits.gives (few_ins (part_at tree q.node 0))
    writes_few q kinds.Gather fits = one_few q _ fits.outs fits.gives (few_outs q.node)
    writes_few q kinds.Split fits =
        let elements = (reduce_part tree lawful q.node fits.node fits.form).elements in
        all_from IsFew q.outs (λ s low.
        let n : ℕ = segment_length fits.len (length q.outs) s in
        let short : n ≤ fits.len = nth_few fits.len (segment_lengths (level_of (length q.outs)) fits.len) s (lengths_few (level_of (length q.outs)) fits.len) in
        let within : n * fits.elem ≤ fits.len * fits.elem = mul-le n fits.elem fits.len fits.elem short (omega arith) in
        let whole = few_ins q.node in
        as_few (out_of q s) (n * fits.elem) (fits.gives s low).words (omega (arith, within, whole, elements)))
    writes_few q kinds.FoldGather fits = one_few q _ fits.outs fits.gives (few_outs q.node)
    writes_few q kinds.Join fits = one_few q _ fits.outs fits.gives (few_outs q.node)
    writes_few q kinds.Head fits = one_few q _ fits.outs fits.gives.words (few_ins q.node)
    writes_few q kinds.Tail fits =
        subst (AllByRecursion IsFew) (sym fits.outs) (
          as_few (out_of q 0) _ fits.gives (few_outs q.node),
          (as_few (out_of q 1) _ fits.back.words (few_outs q.node), (as_few (out_of q 2) 0 fits.credits.words (omega arith), tt)),
        )

    all_few : (xs : List Proc) → ((p : ℕ) (q : Proc) → slice_get xs p ≡ Some q → FitsKind q.kind tree widths q) → AllByRecursion IsFew (all_outs xs)
    all_few [] each = tt
    all_few (x ∷ xs) each = all-append IsFew x.outs (all_outs xs) (writes_few x x.kind (each 0 x refl)) (all_few xs (λ p q at. each (suc p) q at))

pub widths_few : EveryWidthIsSmall
widths_few tree net typed c inside =
    let written = (typed.channels c inside).written in
    all-has (λ d. typed.widths.words d ≤ 65536) (all_outs net.procs) (all_few tree typed.lawful typed.widths net.procs typed.processes) c
    (counted_has (all_outs net.procs) c (omega (arith, written)))
