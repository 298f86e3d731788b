-- Channels that carry no words hold credits alone: nothing but a tail writes them.
use Rattle.std.proofs.Common.{◌≡◌, ℕ, zero, suc, ◌+◌, ◌*◌, ◌^◌, ◌<◌, ◌≤◌, List, [], ◌∷◌, length, get_or, refl, sym, ap, ◌∙◌, subst, arith, inl, inr}
use Rattle.std.specs.List.{AllByRecursion}
use Rattle.std.proofs.Math.Nat.{pow-succ'}
use Rattle.p3l_skel.specs.Counts.{IsCountInRange}
use Rattle.p3l_skel.specs.declared.tree.Tree.{Tree}
use Rattle.p3l_skel.specs.Lawful.{IsLawfulTree}
use Rattle.p3l_skel.specs.Tree.{node_at, part_at}
use Rattle.p3l_skel.proofs.Depth.{lawful_at}
use Rattle.p3l_skel.proofs.Powers.{small_exponent}
use Rattle.p3l_firing.specs.declared.process.Proc.{Proc}
use Rattle.p3l_firing.specs.declared.process.ProcKind.{ProcKind}
use Rattle.p3l_firing.specs.declared.process.ProcKind.TheVariants as kinds
use Rattle.p3l_firing.specs.declared.token.Token.{Token}
use Rattle.p3l_firing.specs.Nodes.{Leaf}
use Rattle.p3l_firing.specs.Process.{Has, in_of, out_of}
use Rattle.p3l_firing.specs.Segments.{halved, level_of, segment_length, segment_lengths}
use Rattle.p3l_firing.specs.Token.{credit}
use Rattle.p3l_firing.specs.Typed.{FitsKind}
use Rattle.p3l_firing.specs.Widths.{Carries, Widths}
use Rattle.p3l_firing.specs.kinds.Split as split
use Rattle.p3l_firing.proofs.LawfulForms.{map_part, reduce_part, some_factor}
use Rattle.p3l_firing.proofs.Places.{all-has}
use Rattle.p3l_reduce.specs.laws.ReduceLaw.{lengths_length}
use Rattle.p3l_reduce.specs.laws.ReduceTyping.{level_exact}
use Rattle.p3l_resume_laws.proofs.Marks.{HandsOn}
use Rattle.p3l_resume_laws.proofs.Traps.{some_nodes}

-- each half of a long segment is long enough
halves_long : (most : ℕ) (ls : List ℕ) → AllByRecursion (λ l. 2 * most ≤ l) ls → AllByRecursion (λ l. most ≤ l) (halved ls)
unfolding halved
halves_long most [] all = tt
halves_long most (l ∷ ls) all = let long = all.0 in (omega (arith, long), (omega (arith, long), halves_long most ls all.1))

segments_long : (level more len : ℕ) → 2 ^ (level + more) ≤ len → AllByRecursion (λ l. 2 ^ more ≤ l) (segment_lengths level len)
unfolding segment_lengths
segments_long zero more len enough = (subst (λ n. 2 ^ n ≤ len) (omega arith) enough, tt)
segments_long (suc level) more len enough =
    halves_long (2 ^ more) (segment_lengths level len)
    (subst (λ n. AllByRecursion (λ l. n ≤ l) (segment_lengths level len)) (pow-succ' 2 more)
    (segments_long level (suc more) len (subst (λ n. 2 ^ n ≤ len) (omega arith) enough)))

nth_long : (most : ℕ) (ls : List ℕ) (k : ℕ) → AllByRecursion (λ l. most ≤ l) ls → k < length ls → most ≤ get_or ls k 0
nth_long most [] k all inside = absurd (omega (arith, inside))
nth_long most (l ∷ ls) zero all inside = all.0
nth_long most (l ∷ ls) (suc k) all inside = nth_long most ls k all.1 (omega (arith, inside))

some_product : (a b : ℕ) → 1 ≤ a → 1 ≤ b → 1 ≤ a * b
some_product zero b h k = absurd (omega (arith, h))
some_product (suc a) zero h k = absurd (omega (arith, k))
some_product (suc a) (suc b) h k = omega arith

-- a channel of no words is another than one of some
none_some : (widths : Widths) (c n : ℕ) → widths.words c ≡ n → 1 ≤ n → widths.words c ≡ 0 → ⊥
none_some widths c n is some none = omega (arith, is, some, none)

abbrev pub IsCreditThere : Widths → ℕ → Token → Type 0
IsCreditThere widths c x = widths.words c ≡ 0 → x ≡ credit

abbrev pub IsAny : ℕ → Token → Type 0
IsAny p x = Unit {0}

module _ (tree : Tree) (lawful : IsLawfulTree tree) (widths : Widths) (q : Proc) where
  pub some_ins : (k : ℕ) → k < length tree.nodes → 1 ≤ (node_at tree k).ins
  some_ins k there = (lawful_at tree lawful k there).ins.0

  pub some_outs : (k : ℕ) → k < length tree.nodes → 1 ≤ (node_at tree k).outs
  some_outs k there = (lawful_at tree lawful k there).outs.0

  -- no segment is empty
  some_segment : (fits : split.Fits tree widths q) (s : ℕ) → s < length q.outs → 1 ≤ segment_length fits.len (length q.outs) s * fits.elem
  some_segment fits s inside =
      let range = subst (λ f. IsCountInRange f (length q.outs)) fits.form fits.count.1 in
      let level : ℕ = range.0.0 in
      let power : length q.outs ≡ 2 ^ level = range.0.1 in
      let small : level ≤ 9 = small_exponent level (subst (λ n. n ≤ 512) power range.2) in
      let is : level_of (length q.outs) ≡ level = ap level_of power ∙ level_exact 9 level small in
      let one : 2 ^ 0 ≡ 1 = refl in
      let enough : 2 ^ (level + 0) ≤ fits.len = subst (λ n. 2 ^ n ≤ fits.len) (omega arith) (subst (λ n. n ≤ fits.len) power range.1) in
      let all : AllByRecursion (λ l. 1 ≤ l) (segment_lengths level fits.len) = subst (λ n. AllByRecursion (λ l. n ≤ l) (segment_lengths level fits.len)) one (segments_long level 0 fits.len enough) in
      let long : length (segment_lengths level fits.len) ≡ length q.outs = lengths_length level fits.len ∙ sym power in
      let here : 1 ≤ get_or (segment_lengths level fits.len) s 0 = nth_long 1 (segment_lengths level fits.len) s all (omega (arith, inside, long)) in
      let reduce = reduce_part tree lawful q.node fits.node fits.form in
      some_product _ _ (subst (λ n. 1 ≤ get_or (segment_lengths n fits.len) s 0) (sym is) here)
      (some_factor fits.len fits.elem (node_at tree q.node).ins (some_ins q.node fits.node) reduce.elements)

  none_in : (cs : List ℕ) (c : ℕ) → Has cs c → ((j : ℕ) → j < length cs → widths.words (get_or cs j 0) ≡ 0 → ⊥) → widths.words c ≡ 0 → ⊥
  none_in [] c there each none = elim there [ ]
  none_in (d ∷ cs) c (inl e) each none = each 0 (omega arith) (subst (λ z. widths.words z ≡ 0) (sym e) none)
  none_in (d ∷ cs) c (inr there) each none = none_in cs c there (λ j inside. each (suc j) (omega (arith, inside))) none

  module _ (leaf : Leaf) (p : ℕ) where
    pub credits_handed : (k : ProcKind) → FitsKind k tree widths q → HandsOn (IsCreditThere widths) IsAny tree leaf widths p q k
    credits_handed kinds.Source fits = λ words none. absurd (none_some widths _ _ fits.gives.words (some_ins 0 (some_nodes tree lawful)) none)
    credits_handed kinds.Sink fits = tt
    credits_handed kinds.Run fits = λ x h none. absurd (none_some widths _ _ fits.gives.words (some_outs q.node fits.node) none)
    credits_handed kinds.Emit fits = λ c n x there wide h none.
        let carries : Carries widths c (node_at tree q.node).ins (widths.tags (in_of q 0) + 1) = all-has _ q.outs fits.gives c there in
        absurd (none_some widths c _ carries.words (some_ins q.node fits.node) none)
    credits_handed kinds.Collect fits = λ c x there h none. absurd (none_some widths _ _ fits.gives (some_outs q.node fits.node) none)
    credits_handed kinds.Scatter fits = record {
      takes = λ x h. tt;
      sends = λ c k x there h none.
          let carries : Carries widths c (node_at tree (part_at tree q.node 0)).ins (widths.tags (in_of q 0)) = all-has _ q.outs fits.gives c there in
          let map = map_part tree lawful q.node fits.node fits.form in
          absurd (none_some widths c _ carries.words (some_ins (part_at tree q.node 0) map.in_tree) none);
    }
    credits_handed kinds.Gather fits = record {
      takes = λ c x there h. tt;
      sends = λ xs full all none. absurd (none_some widths _ _ fits.gives (some_outs q.node fits.node) none);
    }
    credits_handed kinds.Split fits = record {
      takes = λ x h. tt;
      sends = λ c k x there h none.
          absurd (none_in q.outs c there (λ j inside. none_some widths (out_of q j) _ (fits.gives j inside).words (some_segment fits j inside)) none);
    }
    credits_handed kinds.FoldGather fits = record {
      takes = λ c x there h. tt;
      sends = λ xs full all none. absurd (none_some widths _ _ fits.gives (some_outs q.node fits.node) none);
    }
    credits_handed kinds.Join fits = λ x y h k none. absurd (none_some widths _ _ fits.gives (some_outs q.node fits.node) none)
    credits_handed kinds.Head fits =
        let some = some_ins q.node fits.node in
        record {
          round = λ x h none. absurd (none_some widths _ _ fits.gives.words some none);
          enters = λ n x wide h none. absurd (none_some widths _ _ fits.gives.words some none);
        }
    credits_handed kinds.Tail fits =
        let some = some_outs q.node fits.node in
        record {
          holds = λ x outcome h e. tt;
          again = λ x wide h e none. absurd (none_some widths _ _ fits.back.words some none);
          leaves = λ x h none. absurd (none_some widths _ _ fits.gives some none);
          credits = λ none. refl;
        }
