-- The typing law of a reduce: the channels of the segments carry their elements, those of the joins one each, and all keep the
-- tags.
use Rattle.std.proofs.Common.{◌≡◌, ℕ, zero, suc, ◌+◌, ◌-◌, ◌*◌, ◌/◌, ◌^◌, ◌<◌, ◌≤◌, nat_lt, lt-ltb, le-ltb, Option, List, [], ◌∷◌, ◌++◌, map, length, length-append, get_or, replicate, refl, sym, ap, ap₂, ◌∙◌, subst, arith, append-nil}
use Rattle.std.specs.List.{AllByRecursion}
use Rattle.std.proofs.lemmas.List.{get_or-append-add, get_or-map, get_or-replicate, get_or_append_left, length-map, length-replicate}
use Rattle.std.proofs.lemmas.List.Concat.{flat_map-append}
use Rattle.std.proofs.lemmas.Bool.{cond-true, cond-false}
use Rattle.std.proofs.lemmas.Nat.{pow_pos}
use Rattle.std.proofs.Math.Nat.{pow-succ'}
use Rattle.p3l_base.specs.Limits.{most_workers}
use Rattle.p3l_skel.specs.declared.tree.Form.TheVariants.{Reduce}
use Rattle.p3l_skel.specs.declared.tree.Tree.{Tree}
use Rattle.p3l_skel.specs.Counts.{IsLawfulCount, IsCountInRange}
use Rattle.p3l_skel.proofs.Powers.{small_exponent}
use Rattle.p3l_skel.specs.Tree.{node_at}
use Rattle.p3l_firing.specs.declared.process.Proc.{Proc}
use Rattle.p3l_firing.specs.Nodes.{elem_of}
use Rattle.p3l_firing.specs.Process.{all_ins, all_outs, times}
use Rattle.p3l_firing.specs.Segments.{halved, segment_lengths, segment_length, level_up_to, level_of}
use Rattle.p3l_firing.specs.Typed.{FitsKind}
use Rattle.p3l_firing.specs.Widths.{Widths, Carries}
use Rattle.p3l_firing.specs.kinds.Run.{Takes}
use Rattle.p3l_template.specs.Shape.{Base, numbers_from}
use Rattle.p3l_template.specs.Typing.{IsTypedShape, Carry, IsInner, StandsTyped}
use Rattle.p3l_template.specs.Width.{no_width, outs_width}
use Rattle.p3l_template.specs.declared.width.Width.{Width}
use Rattle.p3l_template.specs.laws.Plain.{plain_credits}
use Rattle.p3l_template.specs.laws.Row.{numbers_length, numbers_at}
use Rattle.p3l_template.specs.laws.RunTyping.{run_typed}
use Rattle.p3l_template.specs.laws.TimesLaw.{times_append, times_cons, numbers_append}
use Rattle.p3l_reduce.specs.ReduceKind.{reduce_kind, reduce_widths, segment_width}
use Rattle.p3l_reduce.specs.Reduce.{tee_by, join_at, fold_at, join_procs, fold_procs, split_proc, tree_shape, reduce_shape, IsReduceNode}
use Rattle.p3l_reduce.specs.laws.ReduceLaw.{lengths_length, tee_above}

-- the widths of the segments' channels, then n of width a
abbrev rows : ℕ → ℕ → List ℕ → ℕ → Width → List Width
rows elem t ls n a = map (segment_width elem t) ls ++ replicate n a

rows_count : (elem t : ℕ) (ls : List ℕ) (n : ℕ) (a : Width) → length (rows elem t ls n a) ≡ length ls + n
rows_count elem t ls n a =
    omega (
      arith,
      length-append (map (segment_width elem t) ls) (replicate n a),
      length-map ls (segment_width elem t),
      length-replicate n a,
    )

replicate_few : (n : ℕ) (a : Width) (most k : ℕ) → a.tags ≤ most → (get_or (replicate n a) k no_width).tags ≤ most
replicate_few zero a most k h = omega arith
replicate_few (suc n) a most zero h = h
replicate_few (suc n) a most (suc k) h = replicate_few n a most k h

rows_few : (elem t : ℕ) (ls : List ℕ) (n : ℕ) (a : Width) (k : ℕ) → a.tags ≤ t + 2 →
    (get_or (rows elem t ls n a) k no_width).tags ≤ t + 2
rows_few elem t [] n a k h = replicate_few n a (t + 2) k h
rows_few elem t (l ∷ ls) n a zero h = omega arith
rows_few elem t (l ∷ ls) n a (suc k) h = rows_few elem t ls n a k h

rows_segment : (elem t : ℕ) (ls : List ℕ) (n : ℕ) (a : Width) (k : ℕ) → k < length ls →
    get_or (rows elem t ls n a) k no_width ≡ segment_width elem t (get_or ls k 0)
rows_segment elem t ls n a k l =
    get_or_append_left (map (segment_width elem t) ls) (replicate n a) no_width k
    (omega (arith, l, length-map ls (segment_width elem t)))
    ∙ get_or-map (segment_width elem t) ls k 0 no_width l

rows_joined : (elem t : ℕ) (ls : List ℕ) (n : ℕ) (a : Width) (k : ℕ) → k < n →
    get_or (rows elem t ls n a) (length ls + k) no_width ≡ a
rows_joined elem t ls n a k l =
    let e : length ls + k ≡ length (map (segment_width elem t) ls) + k = omega (arith, length-map ls (segment_width elem t)) in
    ap (λ z. get_or (rows elem t ls n a) z no_width) e
    ∙ get_or-append-add (map (segment_width elem t) ls) (replicate n a) k no_width ∙ get_or-replicate n k a no_width l

halved_least : (most : ℕ) (ls : List ℕ) → AllByRecursion (λ l. 2 * most ≤ l) ls → AllByRecursion (λ l. most ≤ l) (halved ls)
unfolding halved
halved_least most [] h = tt
halved_least most (l ∷ ls) h = (omega (arith, h.0), (omega (arith, h.0), halved_least most ls h.1))

-- at a level each segment has at least as many elements as the levels left can halve
lengths_least : (level more len : ℕ) → 2 ^ (level + more) ≤ len →
    AllByRecursion (λ l. 2 ^ more ≤ l) (segment_lengths level len)
unfolding segment_lengths
lengths_least zero more len h = (subst (λ z. 2 ^ z ≤ len) (omega arith) h, tt)
lengths_least (suc level) more len h =
    halved_least (2 ^ more) (segment_lengths level len)
    (subst (λ z. AllByRecursion (λ l. z ≤ l) (segment_lengths level len)) (pow-succ' 2 more)
    (lengths_least level (suc more) len (subst (λ z. 2 ^ z ≤ len) (omega arith) h)))

all_get : {A : Type 0} (P : A → Type 0) (xs : List A) (k : ℕ) (d : A) → AllByRecursion P xs → k < length xs →
    P (get_or xs k d)
all_get P [] k d h l = absurd (omega arith)
all_get P (x ∷ xs) zero d h l = h.0
all_get P (x ∷ xs) (suc k) d h l = all_get P xs k d h.1 (omega arith)

-- WHAT ITS PROCESSES READ AND WRITE
joins_in : (node output t q n : ℕ) → 1 ≤ q → all_ins (join_procs node output t q n) ≡ numbers_from (t + (q + q - 2)) (n + n)
unfolding join_procs numbers_from
joins_in node output t q zero h = refl
joins_in node output t q (suc n) h =
    let a = tee_above output t (q + q) (omega arith) in
    let b : tee_by output t (suc (q + q)) ≡ suc (t + (q + q - 2)) = tee_above output t (suc (q + q)) (omega arith) ∙ omega arith in
    let d : suc n + suc n ≡ suc (suc (n + n)) = omega arith in
    ap₂ (λ x y. x ∷ (y ∷ all_ins (join_procs node output t (suc q) n))) a b
    ∙ ap (λ z. (t + (q + q - 2)) ∷ (suc (t + (q + q - 2)) ∷ z))
    (joins_in node output t (suc q) n (omega arith) ∙ ap (λ z. numbers_from z (n + n)) (omega arith))
    ∙ ap (numbers_from (t + (q + q - 2))) (sym d)

joins_out : (node output t q n : ℕ) → 2 ≤ q → all_outs (join_procs node output t q n) ≡ numbers_from (t + (q - 2)) n
unfolding join_procs numbers_from
joins_out node output t q zero h = refl
joins_out node output t q (suc n) h =
    ap₂ (λ x y. x ∷ y) (tee_above output t q h)
    (joins_out node output t (suc q) n (omega arith) ∙ ap (λ z. numbers_from z n) (omega arith))

first_out : (node output t n : ℕ) → all_outs (join_procs node output t 1 (suc n)) ≡ output ∷ numbers_from t n
unfolding join_procs tee_by
first_out node output t n =
    ap (λ z. output ∷ z) (joins_out node output t 2 n (omega arith) ∙ ap (λ z. numbers_from z n) (omega arith))

folds_in : (node m output first t s : ℕ) (ls : List ℕ) →
    all_ins (fold_procs node m output first t s ls) ≡ numbers_from (first + s) (length ls)
unfolding fold_procs numbers_from
folds_in node m output first t s [] = refl
folds_in node m output first t s (l ∷ ls) =
    ap (λ z. (first + s) ∷ z) (folds_in node m output first t (suc s) ls ∙ ap (λ z. numbers_from z (length ls)) (omega arith))

folds_out : (node m output first t s : ℕ) (ls : List ℕ) → 2 ≤ m →
    all_outs (fold_procs node m output first t s ls) ≡ numbers_from (t + (m + s - 2)) (length ls)
unfolding fold_procs numbers_from
folds_out node m output first t s [] h = refl
folds_out node m output first t s (l ∷ ls) h =
    ap₂ (λ x y. x ∷ y) (tee_above output t (m + s) (omega arith))
    (folds_out node m output first t (suc s) ls h ∙ ap (λ z. numbers_from z (length ls)) (omega arith))

-- its own processes are inside
joins_inner : (node output t q n : ℕ) → AllByRecursion (λ (p : Proc). IsInner p.kind) (join_procs node output t q n)
unfolding join_procs
joins_inner node output t q zero = tt
joins_inner node output t q (suc n) = (tt, joins_inner node output t (suc q) n)

folds_inner : (node m output first t s : ℕ) (ls : List ℕ) →
    AllByRecursion (λ (p : Proc). IsInner p.kind) (fold_procs node m output first t s ls)
unfolding fold_procs
folds_inner node m output first t s [] = tt
folds_inner node m output first t s (l ∷ ls) = (tt, folds_inner node m output first t (suc s) ls)

all_append : {A : Type 0} (P : A → Type 0) (xs ys : List A) → AllByRecursion P xs → AllByRecursion P ys →
    AllByRecursion P (xs ++ ys)
all_append P [] ys h g = g
all_append P (x ∷ xs) ys h g = (h.0, all_append P xs ys h.1 g)

-- of 2 to the power suc d segments, for a node that has as many
module _ (tree : Tree) (node d len elem : ℕ) (workers : Option ℕ) (there : node < length tree.nodes)
    (form : (node_at tree node).form ≡ Reduce workers len elem)
    (count : IsLawfulCount (node_at tree node).form (2 ^ suc d)) (level : level_of (2 ^ suc d) ≡ suc d)
    (enough : 2 ^ suc d ≤ len) (outs : (node_at tree node).outs ≡ elem) where
  abbrev m : ℕ
  m = 2 ^ suc d

  several : 2 ≤ m
  several = let two : 2 ^ suc d ≡ 2 * 2 ^ d = pow-succ' 2 d in let some : 0 < 2 ^ d = pow_pos d in omega arith

  abbrev lengths : List ℕ
  lengths = segment_lengths (suc d) len

  how_many : length lengths ≡ m
  how_many = lengths_length (suc d) len

  abbrev joined_width : ℕ → Width
  joined_width t = record { words = (node_at tree node).outs; tags = t }

  module _ (w : Widths) (base : Base) (t : ℕ)
      (s : StandsTyped tree node w base t (rows elem t lengths (m + m - 2) (joined_width t))) where
    segment_carries : (k : ℕ) → k < m → Carries w (base.chan + k) (get_or lengths k 0 * elem) t
    unfolding Carry
    segment_carries k l =
        subst (λ z. Carries w (base.chan + k) z.words z.tags)
        (rows_segment elem t lengths (m + m - 2) (joined_width t) k (omega (arith, how_many, l)))
        (s.own k (omega (arith, l, how_many, rows_count elem t lengths (m + m - 2) (joined_width t))))

    tee_carries : (q : ℕ) → 1 ≤ q → q < m + m →
        Carries w (tee_by base.output (base.chan + m) q) (node_at tree node).outs t
    unfolding Carry tee_by
    tee_carries zero h l = absurd (omega arith)
    tee_carries (suc zero) h l = s.output
    tee_carries (suc (suc q)) h l =
        let e : base.chan + (length lengths + q) ≡ base.chan + m + q = omega (arith, how_many) in
        subst (λ z. Carries w z (node_at tree node).outs t) e
        (subst (λ z. Carries w (base.chan + (length lengths + q)) z.words z.tags)
        (rows_joined elem t lengths (m + m - 2) (joined_width t) q (omega (arith, l)))
        (s.own (length lengths + q)
        (omega (arith, l, how_many, rows_count elem t lengths (m + m - 2) (joined_width t)))))

    join_fits : (q : ℕ) → 1 ≤ q → q < m → FitsKind (join_at node base.output (base.chan + m) q).kind tree w
        (join_at node base.output (base.chan + m) q)
    join_fits q h l =
        let out = tee_carries q h (omega (arith, l)) in
        record {
          arg = refl;
          node = there;
          workers = workers;
          len = len;
          elem = elem;
          form = form;
          ins = refl;
          outs = refl;
          takes = (
            subst (Carries w (tee_by base.output (base.chan + m) (q + q)) (node_at tree node).outs) (sym out.tags)
                (tee_carries (q + q) (omega arith) (omega (arith, l))),
            (
              subst (Carries w (tee_by base.output (base.chan + m) (suc (q + q))) (node_at tree node).outs) (sym out.tags)
                  (tee_carries (suc (q + q)) (omega arith) (omega (arith, l))),
              tt,
            ),
          );
          gives = out.words;
        }

    joins_fit : (q n : ℕ) → 1 ≤ q → q + n ≤ m →
        AllByRecursion (λ (p : Proc). FitsKind p.kind tree w p) (join_procs node base.output (base.chan + m) q n)
    unfolding join_procs
    joins_fit q zero h l = tt
    joins_fit q (suc n) h l = (join_fits q h (omega arith), joins_fit (suc q) n (omega arith) (omega arith))

    fold_fits : (k l : ℕ) → k < m → 1 ≤ l → Carries w (base.chan + k) (l * elem) t →
        FitsKind (fold_at node m base.output base.chan (base.chan + m) k l).kind tree w
        (fold_at node m base.output base.chan (base.chan + m) k l)
    fold_fits k l h some c =
        let out = tee_carries (m + k) (omega (arith, several)) (omega (arith, h)) in
        record {
          node = there;
          ins = refl;
          outs = refl;
          takes = subst (λ f. Takes f (node_at tree node).ins l (w.words (base.chan + k))) (sym form)
              (λ z. absurd (omega (arith, z, some)), λ _. c.words);
          gives = subst (Carries w (tee_by base.output (base.chan + m) (m + k)) (node_at tree node).outs) (sym c.tags) out;
        }

    folds_fit : (k : ℕ) (ls : List ℕ) → k + length ls ≤ m → AllByRecursion (λ l. 1 ≤ l) ls →
        ((j : ℕ) → j < length ls → Carries w (base.chan + (k + j)) (get_or ls j 0 * elem) t) →
        AllByRecursion (λ (p : Proc). FitsKind p.kind tree w p) (fold_procs node m base.output base.chan (base.chan + m) k ls)
    unfolding fold_procs
    folds_fit k [] h some c = tt
    folds_fit k (l ∷ ls) h some c = (
      fold_fits k l (omega arith) some.0
          (let e : base.chan + (k + 0) ≡ base.chan + k = omega arith in
          subst (λ z. Carries w z (l * elem) t) e (c 0 (omega arith))),
      folds_fit (suc k) ls (omega arith) some.1
          (λ j g. let e : base.chan + (k + suc j) ≡ base.chan + (suc k + j) = omega arith in
          subst (λ z. Carries w z (get_or ls j 0 * elem) t) e (c (suc j) (omega arith))),
    )

    split_fits : FitsKind (split_proc node m base).kind tree w (split_proc node m base)
    split_fits =
        let n = numbers_length base.chan m in
        record {
          arg = refl;
          node = there;
          workers = workers;
          len = len;
          elem = elem;
          form = form;
          count = subst (IsLawfulCount (node_at tree node).form) (sym n) count;
          several = omega (arith, n, several);
          ins = refl;
          takes = s.input.words;
          gives = λ k l.
              let below : k < m = omega (arith, n, l) in
              let c = segment_carries k below in
              let o = numbers_at base.chan m k below in
              let e : segment_length len (length (numbers_from base.chan m)) k ≡ get_or lengths k 0 =
              ap (λ z. segment_length len z k) n ∙ ap (λ z. get_or (segment_lengths z len) k 0) level in
              record {
                words = ap w.words o ∙ c.words ∙ ap (λ z. z * elem) (sym e);
                tags = ap w.tags o ∙ c.tags ∙ sym s.input.tags;
              };
        }

    tree_fits : AllByRecursion (λ (p : Proc). FitsKind p.kind tree w p) ((tree_shape node m d len).procs base)
    tree_fits = let one : 2 ^ 0 ≡ 1 = refl in (
      split_fits,
      all_append (λ (p : Proc). FitsKind p.kind tree w p) (join_procs node base.output (base.chan + m) 1 (m - 1)) _
          (joins_fit 1 (m - 1) (omega arith) (omega (arith, several)))
          (folds_fit 0 lengths (omega (arith, how_many))
          (subst (λ z. AllByRecursion (λ l. z ≤ l) lengths) one
          (lengths_least (suc d) 0 len (subst (λ z. 2 ^ z ≤ len) (omega arith) enough)))
          (λ j l. let e : base.chan + j ≡ base.chan + (0 + j) = omega arith in
          subst (λ z. Carries w z (get_or lengths j 0 * elem) t) e (segment_carries j (omega (arith, how_many, l))))),
    )

  module _ (base : Base) (c : ℕ) where
    abbrev joins : List Proc
    joins = join_procs node base.output (base.chan + m) 1 (m - 1)

    abbrev folds : List Proc
    folds = fold_procs node m base.output base.chan (base.chan + m) 0 lengths

    all_numbers_are : times c (numbers_from base.chan (m + (m + m - 2)))
        ≡ times c (numbers_from base.chan m) + times c (numbers_from (base.chan + m) (m + m - 2))
    all_numbers_are =
        ap (times c) (numbers_append base.chan m (m + m - 2))
        ∙ times_append c (numbers_from base.chan m) (numbers_from (base.chan + m) (m + m - 2))

    tree_reads : times c (all_ins ((tree_shape node m d len).procs base) ++ [])
        ≡ times c (base.input ∷ numbers_from base.chan (m + (m + m - 2)))
    tree_reads =
        let a = ap (times c) (append-nil (all_ins ((tree_shape node m d len).procs base))) in
        let b = ap (λ z. times c (base.input ∷ z)) (flat_map-append (λ (q : Proc). q.ins) joins folds) in
        let e = times_cons c base.input (all_ins joins ++ all_ins folds) in
        let f = times_append c (all_ins joins) (all_ins folds) in
        let g = ap (times c) (joins_in node base.output (base.chan + m) 1 (m - 1) (omega arith)
        ∙ ap (λ z. numbers_from z ((m - 1) + (m - 1))) {x = base.chan + m + (1 + 1 - 2)} {y = base.chan + m} (omega arith)
        ∙ ap (numbers_from (base.chan + m)) {x = (m - 1) + (m - 1)} {y = m + m - 2} (omega (arith, several))) in
        let h = ap (times c) (folds_in node m base.output base.chan (base.chan + m) 0 lengths
        ∙ ap₂ numbers_from {x = base.chan + 0} {y = base.chan} (omega arith) how_many) in
        let i = times_cons c base.input (numbers_from base.chan (m + (m + m - 2))) in
        omega (arith, a, b, e, f, g, h, i, all_numbers_are)

    tree_writes : times c (all_outs ((tree_shape node m d len).procs base) ++ [])
        ≡ times c (base.output ∷ numbers_from base.chan (m + (m + m - 2)))
    tree_writes =
        let a = ap (times c) (append-nil (all_outs ((tree_shape node m d len).procs base))) in
        let b = ap (λ z. times c (numbers_from base.chan m ++ z)) (flat_map-append (λ (q : Proc). q.outs) joins folds) in
        let e = times_append c (numbers_from base.chan m) (all_outs joins ++ all_outs folds) in
        let f = times_append c (all_outs joins) (all_outs folds) in
        let g = ap (times c) (ap (λ z. all_outs (join_procs node base.output (base.chan + m) 1 z)) {x = m - 1} {y = suc (m - 2)}
        (omega (arith, several)) ∙ first_out node base.output (base.chan + m) (m - 2)) in
        let k = times_cons c base.output (numbers_from (base.chan + m) (m - 2)) in
        let h = ap (times c) (folds_out node m base.output base.chan (base.chan + m) 0 lengths several
        ∙ ap₂ numbers_from {x = base.chan + m + (m + 0 - 2)} {y = base.chan + m + (m - 2)} (omega arith) how_many) in
        let j = ap (times c) (ap (numbers_from (base.chan + m)) {x = m + m - 2} {y = (m - 2) + m} (omega (arith, several))
        ∙ numbers_append (base.chan + m) (m - 2) m)
        ∙ times_append c (numbers_from (base.chan + m) (m - 2)) (numbers_from (base.chan + m + (m - 2)) m) in
        let i = times_cons c base.output (numbers_from base.chan (m + (m + m - 2))) in
        omega (arith, a, b, e, f, g, h, i, j, k, all_numbers_are)

  tree_typed : IsTypedShape tree node (tree_shape node m d len)
  tree_typed = record {
    widths = λ t. rows elem t lengths (m + m - 2) (joined_width t);
    deeper = 0;
    shallow = omega arith;
    count = λ t base. rows_count elem t lengths (m + m - 2) (joined_width t) ∙ ap (λ z. z + (m + m - 2)) how_many;
    tags = λ t k. rows_few elem t lengths (m + m - 2) (joined_width t) k (omega arith);
    credits = λ cap base t k l. plain_credits (m + (m + m - 2)) cap k;
    reads = λ base c. tree_reads base c;
    writes = λ base c. tree_writes base c;
    inner = λ base. (
      tt,
      all_append (λ (p : Proc). IsInner p.kind) (join_procs node base.output (base.chan + m) 1 (m - 1)) _
          (joins_inner node base.output (base.chan + m) 1 (m - 1))
          (folds_inner node m base.output base.chan (base.chan + m) 0 lengths),
    );
    procs = tree_fits;
    slots = λ w base t s v l. absurd (omega arith);
  }

-- its kind has a width for each channel
pub widths_count : (node elem len t : ℕ) (a : Width) (level : ℕ) (base : Base) →
    length (reduce_widths elem len t a level) ≡ (reduce_shape node len level).chans base
unfolding reduce_widths reduce_shape
widths_count node elem len t a zero base = refl
widths_count node elem len t a (suc d) base =
    rows_count elem t (segment_lengths (suc d) len) (2 ^ suc d + 2 ^ suc d - 2) a
    ∙ ap (λ n. n + (2 ^ suc d + 2 ^ suc d - 2)) (lengths_length (suc d) len)

pub reduce_counted : (tree : Tree) (own node len level t : ℕ) (base : Base) →
    length ((reduce_kind own len level).widths tree node t) ≡ (reduce_kind own len level).shape.chans base
reduce_counted tree own node len level t base =
    widths_count own (elem_of (node_at tree node).form) len t (outs_width tree node t) level base

-- the level of a power of two is its exponent
pub level_exact : (most k : ℕ) → k ≤ most → level_up_to most (2 ^ k) ≡ k
unfolding level_up_to
level_exact zero k h = omega arith
level_exact (suc most) zero h = let one : 2 ^ 0 ≡ 1 = refl in
    cond-true (nat_lt (2 ^ 0) 2) 0 (suc (level_up_to most (2 ^ 0 / 2))) (lt-ltb (2 ^ 0) 2 (omega arith))
level_exact (suc most) (suc k) h =
    let two : 2 ^ suc k ≡ 2 * 2 ^ k = pow-succ' 2 k in
    let some : 0 < 2 ^ k = pow_pos k in
    let half : 2 ^ suc k / 2 ≡ 2 ^ k = omega arith in
    cond-false (nat_lt (2 ^ suc k) 2) 0 (suc (level_up_to most (2 ^ suc k / 2))) (le-ltb (2 ^ suc k) 2 (omega arith))
    ∙ ap (λ z. suc (level_up_to most z)) half ∙ ap suc (level_exact most k (omega arith))

-- a node of a power of two of segments
typed_at : (tree : Tree) (node segments len k : ℕ) (is : IsReduceNode tree node segments len) → segments ≡ 2 ^ k → k ≤ 9 →
    segments ≤ len → IsTypedShape tree node (reduce_shape node len k)
unfolding reduce_shape
typed_at tree node segments len zero is power small enough =
    run_typed tree node (record {
      there = is.there;
      takes = subst (λ f. Takes f (node_at tree node).ins 0 (node_at tree node).ins) (sym is.form)
          (λ _. refl, λ z. absurd (omega (arith, z)));
    })
typed_at tree node segments len (suc d) is power small enough =
    tree_typed tree node d len is.elem is.clause is.there is.form
    (subst (IsLawfulCount (node_at tree node).form) power is.count) (level_exact 9 (suc d) small)
    (subst (λ z. z ≤ len) power enough) is.result

-- of `segments` segments, a power of two
pub reduce_typed : (tree : Tree) (node segments len : ℕ) → IsReduceNode tree node segments len →
    IsTypedShape tree node (reduce_shape node len (level_of segments))
reduce_typed tree node segments len is =
    let range = subst (λ f. IsCountInRange f segments) is.form is.count.1 in
    let k : ℕ = range.0.0 in
    let power : segments ≡ 2 ^ k = range.0.1 in
    let small : k ≤ 9 = small_exponent k (subst (λ z. z ≤ most_workers) power range.2) in
    subst (λ z. IsTypedShape tree node (reduce_shape node len z)) (sym (ap level_of power ∙ level_exact 9 k small))
    (typed_at tree node segments len k is power small range.1)

pub reduce_serves : (tree : Tree) (own node segments len : ℕ) → (own ≡ node) × IsReduceNode tree node segments len →
    IsTypedShape tree node (reduce_shape own len (level_of segments))
reduce_serves tree own node segments len s =
    subst (λ k. IsTypedShape tree node (reduce_shape k len (level_of segments))) (sym s.0)
    (reduce_typed tree node segments len s.1)
