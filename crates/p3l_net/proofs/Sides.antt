-- The tables of the ends of channels.
use Rattle.std.proofs.Common.{◌≡◌, ℕ, zero, suc, ◌+◌, ◌<◌, ◌≤◌, ◌==◌, List, [], ◌∷◌, ◌++◌, length, Some, slice_get, slice_set, get_or, replicate, map, refl, sym, ap, ◌∙◌, subst, arith, inl, inr, ◌⊎◌, length-set, get_or-set_same, get_or-set_other, cond}
use Rattle.std.specs.List.{AllByRecursion, flat_map}
use Rattle.std.proofs.lemmas.Bool.{cases_eq, cases_lt}
use Rattle.std.proofs.lemmas.List.{length-replicate, set_past}
use Rattle.std.proofs.lemmas.List.Sums.{sum_by-append}
use Rattle.p3l_skel.specs.declared.tree.Tree.{Tree}
use Rattle.p3l_firing.specs.declared.process.Proc.{Proc}
use Rattle.p3l_firing.specs.declared.net.Net.{Net}
use Rattle.p3l_firing.specs.Typed.{IsTyped}
use Rattle.p3l_firing.specs.Process.{Has, kind_at, times}
use Rattle.std.specs.Option.{option_map}
use Rattle.p3l_firing.specs.declared.process.ProcKind.TheVariants.{Source}
use Rattle.p3l_net.specs.declared.descriptor.Descriptor.{Descriptor}
use Rattle.p3l_net.specs.Descriptor.{IsDescribed, descriptor_of}
use Rattle.p3l_net.specs.Steps.{HasEnds, Ends, marked}
use Rattle.p3l_firing.proofs.Fitting.{all_of_one}
use Rattle.p3l_firing.proofs.Places.{has_counted}

-- the numbers that were entered are at their places, and the others stay
pub marked_long : (t cs : List ℕ) (p : ℕ) → length (marked t cs p) ≡ length t
marked_long t [] p = refl
marked_long t (c ∷ cs) p = marked_long (slice_set t c p) cs p ∙ length-set t c p

pub marked_bound : (t cs : List ℕ) (p n : ℕ) → p < n → ((c : ℕ) → get_or t c 0 < n) → (c : ℕ) → get_or (marked t cs p) c 0 < n
marked_bound t [] p n h bound = bound
marked_bound t (d ∷ cs) p n h bound =
    marked_bound (slice_set t d p) cs p n h
    (λ c. elim (cases_eq c d) [
      | inl e ↦
          elim (cases_lt d (length t)) [
            | inl inside ↦ subst (λ x. x < n) (sym (ap (λ k. get_or (slice_set t d p) k 0) e ∙ get_or-set_same t d p 0 inside)) h
            | inr past ↦ subst (λ x. x < n) (sym (ap (λ ts. get_or ts c 0) (set_past t d p past))) (bound c)
          ]
      | inr e ↦ subst (λ x. x < n) (sym (get_or-set_other t d c p 0 e)) (bound c)
    ])

pub marked_other : (t cs : List ℕ) (p c : ℕ) → (Has cs c → ⊥) → get_or (marked t cs p) c 0 ≡ get_or t c 0
marked_other t [] p c none = refl
marked_other t (d ∷ cs) p c none = marked_other (slice_set t d p) cs p c (λ h. none (inr h)) ∙ get_or-set_other t d c p 0 (λ e. none (inl (sym e)))

has_or_not : (cs : List ℕ) (c : ℕ) → Has cs c ⊎ (Has cs c → ⊥)
has_or_not [] c = inr (λ h. h)
has_or_not (d ∷ cs) c =
    elim (cases_eq d c) [
      | inl e ↦ inl (inl e)
      | inr e ↦
          elim (has_or_not cs c) [
            | inl h ↦ inl (inr h)
            | inr n ↦ inr (λ g. elim g [ inl f ↦ e f | inr f ↦ n f ])
          ]
    ]

pub marked_here : (t cs : List ℕ) (p c : ℕ) → Has cs c → c < length t → get_or (marked t cs p) c 0 ≡ p
marked_here t (d ∷ cs) p c h inside =
    elim (has_or_not cs c) [
      | inl later ↦ marked_here (slice_set t d p) cs p c later (subst (λ n. c < n) (sym (length-set t d p)) inside)
      | inr none ↦
          let here : d ≡ c = elim h [ inl e ↦ e | inr f ↦ absurd (none f) ] in
          marked_other (slice_set t d p) cs p c none ∙ ap (λ k. get_or (slice_set t k p) c 0) here ∙ get_or-set_same t c p 0 inside
    ]
marked_here t [] p c h inside = elim h [ ]

counted_part : (f : Proc → List ℕ) (xs : List Proc) (c i : ℕ) (x : Proc) → slice_get xs i ≡ Some x → Has (f x) c → 1 ≤ times c (flat_map f xs)
counted_part f [] c i x e h = cc
counted_part f (y ∷ ys) c zero x e h =
    let split : times c (f y ++ flat_map f ys) ≡ times c (f y) + times c (flat_map f ys) = sum_by-append (λ z. cond (z == c) 1 0) (f y) (flat_map f ys) in
    let same : y ≡ x = cc in
    let here = has_counted (f y) c (subst (λ z. Has (f z) c) (sym same) h) in
    omega (arith, split, here)
counted_part f (y ∷ ys) c (suc i) x e h =
    let split : times c (f y ++ flat_map f ys) ≡ times c (f y) + times c (flat_map f ys) = sum_by-append (λ z. cond (z == c) 1 0) (f y) (flat_map f ys) in
    let later = counted_part f ys c i x e h in
    omega (arith, split, later)

-- a channel that is counted once has one process
pub one_has : (f : Proc → List ℕ) (xs : List Proc) (c : ℕ) → times c (flat_map f xs) ≡ 1 → (i j : ℕ) (x y : Proc) → slice_get xs i ≡ Some x → slice_get xs j ≡ Some y → Has (f x) c → Has (f y) c → i ≡ j
one_has f [] c once i j x y a b h k = cc
one_has f (z ∷ zs) c once zero zero x y a b h k = refl
one_has f (z ∷ zs) c once zero (suc j) x y a b h k =
    let split : times c (f z ++ flat_map f zs) ≡ times c (f z) + times c (flat_map f zs) = sum_by-append (λ w. cond (w == c) 1 0) (f z) (flat_map f zs) in
    let same : z ≡ x = cc in
    let here = has_counted (f z) c (subst (λ w. Has (f w) c) (sym same) h) in
    let later = counted_part f zs c j y b k in
    absurd (omega (arith, split, once, here, later))
one_has f (z ∷ zs) c once (suc i) zero x y a b h k =
    let split : times c (f z ++ flat_map f zs) ≡ times c (f z) + times c (flat_map f zs) = sum_by-append (λ w. cond (w == c) 1 0) (f z) (flat_map f zs) in
    let same : z ≡ y = cc in
    let here = has_counted (f z) c (subst (λ w. Has (f w) c) (sym same) k) in
    let later = counted_part f zs c i x a h in
    absurd (omega (arith, split, once, here, later))
one_has f (z ∷ zs) c once (suc i) (suc j) x y a b h k =
    let split : times c (f z ++ flat_map f zs) ≡ times c (f z) + times c (flat_map f zs) = sum_by-append (λ w. cond (w == c) 1 0) (f z) (flat_map f zs) in
    let later = counted_part f zs c i x a h in
    let rest : times c (flat_map f zs) ≡ 1 = omega (arith, split, once, later) in
    ap suc (one_has f zs c rest i j x y a b h k)

-- a table in which the first p processes were entered
pub record Entered (f : Proc → List ℕ) (procs : List Proc) (count p : ℕ) (table : List ℕ) : Type 0 where
  pub long : length table ≡ count
  pub bound : (c : ℕ) → get_or table c 0 < length procs
  pub right : (r c : ℕ) (q : Proc) → r < p → slice_get procs r ≡ Some q → Has (f q) c → get_or table c 0 ≡ r

zeros : (n c : ℕ) → get_or {A = ℕ} (replicate n 0) c 0 ≡ 0
zeros zero c = refl
zeros (suc n) zero = refl
zeros (suc n) (suc c) = zeros n c

pub none_entered : (f : Proc → List ℕ) (procs : List Proc) (count : ℕ) → 0 < length procs → (table : List ℕ) → table ≡ replicate count 0 → Entered f procs count 0 table
none_entered f procs count some table e =
    subst (Entered f procs count 0) (sym e)
    (record {
      long = length-replicate count 0;
      bound = λ c. subst (λ x. x < length procs) (sym (zeros count c)) some;
      right = λ r c q less stands h. absurd (omega (arith, less));
    })

pub one_entered : (f : Proc → List ℕ) (procs : List Proc) (count p : ℕ) (table : List ℕ) → Entered f procs count p table → p < length procs → AllByRecursion (λ c. c < count) (flat_map f procs) → ((c : ℕ) → c < count → times c (flat_map f procs) ≡ 1) → (q : Proc) → slice_get procs p ≡ Some q → (new : List ℕ) → new ≡ marked table (f q) p → Entered f procs count (p + 1) new
one_entered f procs count p table was there inside once q stands new e =
    let in_count : (c : ℕ) → Has (f q) c → c < count = λ c h. all_has (λ x. x < count) (f q) (all_of_one (λ x. x < count) f procs p q stands inside) c h in
    subst (Entered f procs count (p + 1)) (sym e)
    (record {
      long = marked_long table (f q) p ∙ was.long;
      bound = marked_bound table (f q) p (length procs) there was.bound;
      right = λ r c x less at h.
          elim (cases_eq r p) [
            | inl same ↦
                let is : x ≡ q = some_same x q (sym at ∙ ap (slice_get procs) same ∙ stands) in
                let has : Has (f q) c = subst (λ w. Has (f w) c) is h in
                marked_here table (f q) p c has (subst (λ n. c < n) (sym was.long) (in_count c has)) ∙ sym same
            | inr apart ↦
                let in_count_x : c < count = all_has (λ w. w < count) (f x) (all_of_one (λ w. w < count) f procs r x at inside) c h in
                marked_other table (f q) p c (λ has. apart (one_has f procs c (once c in_count_x) r p x q at stands h has))
                ∙ was.right r c x (omega (arith, less, apart)) at h
          ];
    })
  where
    some_same : (x y : Proc) → Some x ≡ Some y → x ≡ y
    some_same x y k = cc

    all_has : (P : ℕ → Type 0) (cs : List ℕ) → AllByRecursion P cs → (d : ℕ) → Has cs d → P d
    all_has P [] all d k = elim k [ ]
    all_has P (c ∷ cs) all d (inl k) = subst P k all.0
    all_has P (c ∷ cs) all d (inr k) = all_has P cs all.1 d k

pub all_entered : (net : Net) (sides : Ends) → sides.descriptors ≡ map descriptor_of net.procs → Entered (λ (q : Proc). q.outs) net.procs (length net.chans) (length net.procs) sides.writers → Entered (λ (q : Proc). q.ins) net.procs (length net.chans) (length net.procs) sides.readers → HasEnds net sides
all_entered net sides descriptors writers readers = record {
  as_many_writers = writers.long;
  as_many_readers = readers.long;
  written = λ r c q at h. writers.right r c q (inside net.procs r q at) at h;
  read = λ r c q at h. readers.right r c q (inside net.procs r q at) at h;
  writers_inside = λ c h. writers.bound c;
  readers_inside = λ c h. readers.bound c;
  descriptors = descriptors;
}
  where
    inside : (xs : List Proc) (i : ℕ) (x : Proc) → slice_get xs i ≡ Some x → i < length xs
    inside [] i x e = cc
    inside (y ∷ ys) zero x e = omega arith
    inside (y ∷ ys) (suc i) x e = let r = inside ys i x e in omega (arith, r)

-- an item that was read is there
pub get_is : (xs : List Proc) (i : ℕ) (x : Proc) → i < length xs → x ≡ get_or xs i x → slice_get xs i ≡ Some x
get_is [] i x h e = absurd (omega (arith, h))
get_is (y ∷ ys) zero x h e = ap Some (sym e)
get_is (y ∷ ys) (suc i) x h e = get_is ys i x (omega (arith, h)) e

module _ {tree : Tree} {net : Net} (typed : IsTyped tree net) where
  pub some_procs : 0 < length net.procs
  some_procs = by net.procs typed.source
    where
      by : (xs : List Proc) → option_map (λ (q : Proc). q.kind) (slice_get xs 0) ≡ Some Source → 0 < length xs
      by [] e = cc
      by (x ∷ xs) e = omega arith

  module _ (p : ℕ) (q : Proc) (stands : slice_get net.procs p ≡ Some q) where
    pub outs_inside : AllByRecursion (λ c. c < length net.chans) q.outs
    outs_inside = all_of_one (λ c. c < length net.chans) (λ (x : Proc). x.outs) net.procs p q stands typed.writes

    pub ins_inside : AllByRecursion (λ c. c < length net.chans) q.ins
    ins_inside = all_of_one (λ c. c < length net.chans) (λ (x : Proc). x.ins) net.procs p q stands typed.reads

    pub entered_writers : (table : List ℕ) → Entered (λ (x : Proc). x.outs) net.procs (length net.chans) p table → p < length net.procs → (new : List ℕ) → new ≡ marked table q.outs p → Entered (λ (x : Proc). x.outs) net.procs (length net.chans) (p + 1) new
    entered_writers table was there new e = one_entered (λ (x : Proc). x.outs) net.procs (length net.chans) p table was there typed.writes (λ c h. (typed.channels c h).written) q stands new e

    pub entered_readers : (table : List ℕ) → Entered (λ (x : Proc). x.ins) net.procs (length net.chans) p table → p < length net.procs → (new : List ℕ) → new ≡ marked table q.ins p → Entered (λ (x : Proc). x.ins) net.procs (length net.chans) (p + 1) new
    entered_readers table was there new e = one_entered (λ (x : Proc). x.ins) net.procs (length net.chans) p table was there typed.reads (λ c h. (typed.channels c h).read) q stands new e

-- the process that a descriptor was read for
described_in : (procs : List Proc) (p : ℕ) (d : Descriptor) → slice_get (map descriptor_of procs) p ≡ Some d → (q : Proc) × ((slice_get procs p ≡ Some q) × (d ≡ descriptor_of q))
described_in [] p d read = cc
described_in (q ∷ procs) zero d read = (q, (refl, cc))
described_in (q ∷ procs) (suc p) d read = described_in procs p d read

-- the process of a descriptor that was read
pub is_described : {net : Net} {ends : Ends} {p : ℕ} {descriptor : Descriptor} → HasEnds net ends → slice_get ends.descriptors p ≡ Some descriptor → IsDescribed net p descriptor
is_described {net = net} {p = p} {descriptor = descriptor} sides read =
    let found = described_in net.procs p descriptor (sym (ap (λ (ds : List Descriptor). slice_get ds p) sides.descriptors) ∙ read) in
    record { process = found.0; stands = found.1.0; described = found.1.1 }

-- a descriptor has the kind of its process
pub kind_described : {net : Net} {p : ℕ} {descriptor : Descriptor} → IsDescribed net p descriptor → kind_at net p ≡ Some descriptor.kind
kind_described is = ap (option_map (λ (q : Proc). q.kind)) is.stands ∙ ap (λ (d : Descriptor). Some d.kind) (sym is.described)
