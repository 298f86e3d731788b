-- Widths that the processes of a reduce force: the channels of the segments carry their elements by Split, those of the joins the out words
-- by the processes that write them, and all as many tags as the in channel, from the segments up to the last join.
use Rattle.std.proofs.Common.{◌≡◌, ℕ, zero, suc, ◌+◌, ◌-◌, ◌*◌, ◌/◌, ◌^◌, ◌<◌, ◌≤◌, nat_lt, Option, List, [], ◌∷◌, ◌++◌, length, get_or, map, replicate, sym, ap, ◌∙◌, subst, inl, inr, arith}
use Rattle.std.specs.List.{AllByRecursion}
use Rattle.std.proofs.Math.Nat.{pow-succ'}
use Rattle.std.proofs.lemmas.Bool.{cases_Bool, cases_lt, cond-true, cond-false}
use Rattle.std.proofs.lemmas.List.{length-map}
use Rattle.std.proofs.lemmas.Nat.{pow_pos}
use Rattle.p3l_skel.specs.declared.tree.Form.TheVariants.{Reduce}
use Rattle.p3l_skel.specs.declared.tree.Tree.{Tree}
use Rattle.p3l_skel.specs.Tree.{node_at}
use Rattle.p3l_firing.specs.declared.process.Proc.{Proc}
use Rattle.p3l_firing.specs.Segments.{level_up_to, segment_length, segment_lengths}
use Rattle.p3l_firing.specs.Typed.{FitsKind}
use Rattle.p3l_firing.specs.Widths.{Carries, Widths}
use Rattle.p3l_template.specs.Shape.{Base, numbers_from}
use Rattle.p3l_template.specs.laws.Row.{numbers_at, numbers_length}
use Rattle.p3l_template.specs.laws.TimesLaw.{all_numbers}
use Rattle.p3l_template.specs.Width.{outs_width}
use Rattle.p3l_template.specs.declared.width.Width.{Width}
use Rattle.p3l_reduce.specs.ReduceKind.{reduce_widths, segment_width}
use Rattle.p3l_reduce.specs.Reduce.{fold_at, fold_procs, join_at, join_procs, reduce_shape, split_proc, tee_by, tree_shape}
use Rattle.p3l_reduce.specs.laws.ReduceLaw.{lengths_length}
use Rattle.p3l_reduce.specs.laws.ReduceTyping.{level_exact}
use Rattle.p3l_resume_laws.proofs.Rows.{CarryRow, all_split, row_append, row_same, row_segments}
use Rattle.p3l_resume_laws.proofs.Forcing.{FitAll, Flows, Forces, run_forces}

join_get : (P : Proc → Type 0) (node output t q n : ℕ) → AllByRecursion P (join_procs node output t q n) → (j : ℕ) → q ≤ j → j < q + n →
    P (join_at node output t j)
unfolding join_procs
join_get P node output t q zero all j from to = absurd (omega (arith, from, to))
join_get P node output t q (suc n) all j from to =
    elim (cases_lt q j) [
      | inl after ↦ join_get P node output t (suc q) n all.1 j (omega (arith, after)) (omega (arith, to))
      | inr here ↦ (let e : q ≡ j = omega (arith, from, here) in subst (λ z. P (join_at node output t z)) e all.0)
    ]

fold_get : (P : Proc → Type 0) (node m output first t s : ℕ) (ls : List ℕ) → AllByRecursion P (fold_procs node m output first t s ls) →
    (j : ℕ) → j < length ls → P (fold_at node m output first t (s + j) (get_or ls j 0))
unfolding fold_procs
fold_get P node m output first t s [] all j low = absurd (omega (arith, low))
fold_get P node m output first t s (l ∷ ls) all zero low =
    let e : s ≡ s + 0 = omega arith in subst (λ z. P (fold_at node m output first t z l)) e all.0
fold_get P node m output first t s (l ∷ ls) all (suc j) low =
    let e : suc s + j ≡ s + suc j = omega arith in
    subst (λ z. P (fold_at node m output first t z (get_or ls j 0))) e
    (fold_get P node m output first t (suc s) ls all.1 j (omega (arith, low)))

-- of 2 to the power suc d segments
module _ (tree : Tree) (k d len elem : ℕ) (workers : Option ℕ) (form : (node_at tree k).form ≡ Reduce workers len elem) (small : suc d ≤ 9)
    (w : Widths) (base : Base) (t : ℕ) (fits : FitAll tree w ((tree_shape k (2 ^ suc d) d len).procs base))
    (input : Carries w base.input (node_at tree k).ins t) where
  abbrev m : ℕ
  m = 2 ^ suc d

  several : 2 ≤ m
  several = let two : 2 ^ suc d ≡ 2 * 2 ^ d = pow-succ' 2 d in let some : 0 < 2 ^ d = pow_pos d in omega arith

  abbrev lengths : List ℕ
  lengths = segment_lengths (suc d) len

  how_many : length lengths ≡ m
  how_many = lengths_length (suc d) len

  abbrev Fit : Proc → Type 0
  Fit q = FitsKind q.kind tree w q

  abbrev joins : List Proc
  joins = join_procs k base.output (base.chan + m) 1 (m - 1)

  abbrev folds : List Proc
  folds = fold_procs k m base.output base.chan (base.chan + m) 0 lengths

  split_fits : Fit (split_proc k m base)
  split_fits = fits.0

  both_fit : AllByRecursion Fit joins × AllByRecursion Fit folds
  both_fit = all_split Fit joins folds fits.1

  segment_carries : (s : ℕ) → s < m → Carries w (base.chan + s) (get_or lengths s 0 * elem) t
  segment_carries s low =
      let n = numbers_length base.chan m in
      let given = split_fits.gives s (omega (arith, n, low)) in
      let at : get_or (numbers_from base.chan m) s 0 ≡ base.chan + s = numbers_at base.chan m s low in
      let forms : Reduce split_fits.workers split_fits.len split_fits.elem ≡ Reduce workers len elem = sym split_fits.form ∙ form in
      let long : split_fits.len ≡ len = cc in
      let wide : split_fits.elem ≡ elem = cc in
      let is : segment_length split_fits.len (length (numbers_from base.chan m)) s ≡ get_or lengths s 0 =
      ap (λ z. segment_length z (length (numbers_from base.chan m)) s) long ∙ ap (λ z. segment_length len z s) n
      ∙ ap (λ z. get_or (segment_lengths z len) s 0) (level_exact 9 (suc d) small) in
      record {
        words = ap w.words (sym at) ∙ given.words ∙ ap (λ z. z * split_fits.elem) is ∙ ap (λ z. get_or lengths s 0 * z) wide;
        tags = ap w.tags (sym at) ∙ given.tags ∙ input.tags;
      }

  -- the channel of a place in the tree of joins carries the out words
  Joined : ℕ → Type 0
  Joined q = Carries w (tee_by base.output (base.chan + m) q) (node_at tree k).outs t

  fold_gives : (s : ℕ) → s < m → Joined (m + s)
  unfolding Joined
  fold_gives s low =
      let fold : Fit (fold_at k m base.output base.chan (base.chan + m) (0 + s) (get_or lengths s 0)) =
      fold_get Fit k m base.output base.chan (base.chan + m) 0 lengths both_fit.1 s (omega (arith, low, how_many)) in
      let given = fold.gives in
      let of = segment_carries s low in
      let e : base.chan + (0 + s) ≡ base.chan + s = omega arith in
      let f : m + (0 + s) ≡ m + s = omega arith in
      subst (λ z. Carries w (tee_by base.output (base.chan + m) z) (node_at tree k).outs t) f
      (record { words = given.words; tags = given.tags ∙ ap w.tags e ∙ of.tags })

  -- from the last place down
  joined_down : (more q : ℕ) → 1 ≤ q → q < m + m → m + m ≤ q + more → Joined q
  unfolding Joined
  joined_down zero q some low high = absurd (omega (arith, low, high))
  joined_down (suc more) q some low high =
      elim (cases_lt q m) [
        | inl inside ↦
            let join : Fit (join_at k base.output (base.chan + m) q) =
            join_get Fit k base.output (base.chan + m) 1 (m - 1) both_fit.0 q some (omega (arith, inside)) in
            let left = joined_down more (q + q) (omega (arith, some)) (omega (arith, inside)) (omega (arith, some, high)) in
            let takes = join.takes.0 in
            record { words = join.gives; tags = sym takes.tags ∙ left.tags }
        | inr past ↦
            let e : m + (q - m) ≡ q = omega (arith, past) in
            subst Joined e (fold_gives (q - m) (omega (arith, low, past)))
      ]

  joined_at : (q : ℕ) → 1 ≤ q → q < m + m → Joined q
  joined_at q some low = joined_down (m + m) q some low (omega arith)

  tree_flow : Flows tree k w base t 0 [] (map (segment_width elem t) (segment_lengths (suc d) len) ++ replicate (2 ^ suc d + 2 ^ suc d - 2) (outs_width tree k t))
  unfolding Joined tee_by
  tree_flow =
      let segments : List Width = map (segment_width elem t) lengths in
      let all : CarryRow w (base.chan + m) (replicate (m + m - 2) (outs_width tree k t)) =
      row_same w (m + m - 2) (base.chan + m) (outs_width tree k t)
      (all_numbers (λ c. Carries w c (node_at tree k).outs t) (base.chan + m) (m + m - 2)
      (λ i low. joined_at (suc (suc i)) (omega arith) (omega (arith, low)))) in
      let many : m ≡ length segments = sym (length-map lengths (segment_width elem t) ∙ how_many) in
      record {
        own = row_append w base.chan segments (replicate (m + m - 2) (outs_width tree k t))
            (row_segments w elem t base.chan lengths (λ j low. segment_carries j (omega (arith, low, how_many))))
            (subst (λ z. CarryRow w (base.chan + z) (replicate (m + m - 2) (outs_width tree k t))) many all);
        output = joined_at 1 (omega arith) (omega (arith, several));
        fed = λ v low. absurd (omega (arith, low));
      }

pub level_few : (most n : ℕ) → level_up_to most n ≤ most
unfolding level_up_to
level_few zero n = omega arith
level_few (suc most) n =
    let rest = level_few most (n / 2) in
    elim (cases_Bool (nat_lt n 2)) [
      | inl small ↦ omega (arith, cond-true (nat_lt n 2) 0 (suc (level_up_to most (n / 2))) small)
      | inr large ↦ omega (arith, rest, cond-false (nat_lt n 2) 0 (suc (level_up_to most (n / 2))) large)
    ]

-- of 2 to the power level segments
pub reduce_forces : (tree : Tree) (k len elem : ℕ) (workers : Option ℕ) → (node_at tree k).form ≡ Reduce workers len elem → (level : ℕ) → level ≤ 9 →
    Forces tree k (reduce_shape k len level) 0 (λ t. reduce_widths elem len t (outs_width tree k t) level)
unfolding reduce_shape reduce_widths
reduce_forces tree k len elem workers form zero small = run_forces tree k
reduce_forces tree k len elem workers form (suc d) small = λ w base t fits pass input. tree_flow tree k d len elem workers form small w base t fits input
