-- The row of a tail.
use Rattle.std.proofs.Common.{◌≡◌, ◌≢◌, ℕ, ℤ, ◌+◌, ◌&&◌, ◌||◌, cond, nat_eq, nat_lt, Bool, true, false, List, [], ◌∷◌, length, Some, slice_get, refl, sym, ap, ap₂, ◌∙◌, subst, arith, inl, inr}
use Rattle.std.specs.List.{AllByRecursion}
use Rattle.std.proofs.lemmas.Bool.{and_parts, cases_Bool, cond-true, cond-false}
use Rattle.p3l_base.specs.declared.outcome.Outcome.{Outcome}
use Rattle.p3l_base.specs.declared.outcome.Outcome.TheVariants.{Value, Trapped}
use Rattle.p3l_skel.specs.Item.{is_done}
use Rattle.p3l_skel.specs.declared.tree.Tree.{Tree}
use Rattle.p3l_skel.specs.Tree.{HasLength}
use Rattle.p3l_firing.specs.declared.process.Proc.{Proc}
use Rattle.p3l_firing.specs.declared.process.ProcKind.TheVariants.{Tail}
use Rattle.p3l_firing.specs.declared.net.Net.{Net}
use Rattle.p3l_firing.specs.declared.token.Token.{Token}
use Rattle.p3l_firing.specs.Lists.{has_first}
use Rattle.p3l_firing.specs.Token.{credit, newest_tag, second_tag, untagged, once_more}
use Rattle.p3l_firing.specs.Nodes.{Leaf, turns_of, spent_of, test_of}
use Rattle.p3l_firing.specs.State.{LocalState, State, front, pop, push, set_own, gathering, has_room, with_rest}
use Rattle.p3l_firing.specs.Process.{IsAt, in_of, out_of}
use Rattle.p3l_firing.specs.Widths.{Widths, FitsToken}
use Rattle.p3l_firing.specs.Typed.{IsFitting}
use Rattle.p3l_firing.specs.kinds.Tail.{has_number, pick_number, drop_number, Turn, Turn.Held, Turn.Again, by_test, turn_of, can_release, can, after_release, release, take_turn, next_turn, fire, reads, Fits, Keeps}
use Rattle.p3l_firing.proofs.Places.{first_in, has-nth}
use Rattle.p3l_firing.proofs.Reading.{SameIn, room-same, with_rest-cond}
use Rattle.p3l_firing.proofs.WidthLaw.{fits_width, width_of, later_long, next_long}
use Rattle.p3l_firing.proofs.Fitting.{fitting-push, fitting-pop, fitting-own, front_fits, room-pop, room-push, all_push}
use Rattle.p3l_firing.proofs.row.Head.{three_long}

pub own_reads : (tree : Tree) (widths : Widths) (q : Proc) → Fits tree widths q → AllByRecursion (IsAt (Some q)) (reads q)
own_reads tree widths q fits_q =
    let long = three_long q.outs _ _ _ fits_q.outs in
    (inl (first_in q.ins fits_q.ins), (inr (has-nth q.outs 0 (omega (arith, long))), (inr (has-nth q.outs 1 (omega (arith, long))), (inr (has-nth q.outs 2 (omega (arith, long))), tt))))

pub release-alike : (net : Net) (s t : State) (o : LocalState) (q : Proc) → SameIn s t (reads q) → can_release net s o q ≡ can_release net t o q
unfolding can_release
release-alike net s t o q same = ap₂ (λ a b. has_number o.number o.held && (a && b)) (room-same net s t _ same.1.0) (room-same net s t _ same.1.1.1.0)

pub alike : (net : Net) (s t : State) (o : LocalState) (q : Proc) → SameIn s t (reads q) → can net s o q ≡ can net t o q
unfolding can
alike net s t o q same = ap₂ (λ a b. a || b) (release-alike net s t o q same) (ap₂ (λ a b. a && b) (ap has_first same.0) (room-same net s t _ same.1.1.0))

turn-rest : (turn : Turn) (s : State) (rest : List (List ℤ)) (p : ℕ) (o : LocalState) (q : Proc) (x : Token) → take_turn turn (with_rest s rest) p o q x ≡ with_rest (take_turn turn s p o q x) rest
unfolding take_turn with_rest push pop set_own
turn-rest (Held outcome) s rest p o q x = refl
turn-rest Again s rest p o q x = refl

release-rest : (s : State) (rest : List (List ℤ)) (p : ℕ) (o : LocalState) (q : Proc) → release (with_rest s rest) p o q ≡ with_rest (release s p o q) rest
unfolding release with_rest push pop set_own
release-rest s rest p o q = refl

can_release-rest : (net : Net) (s : State) (rest : List (List ℤ)) (o : LocalState) (q : Proc) → can_release net (with_rest s rest) o q ≡ can_release net s o q
unfolding can_release with_rest has_room
can_release-rest net s rest o q = refl

fire-rest : (tree : Tree) (leaf : Leaf) (s : State) (rest : List (List ℤ)) (p : ℕ) (o : LocalState) (q : Proc) → take_turn (next_turn tree leaf (with_rest s rest) q) (with_rest s rest) p o q (front (with_rest s rest) (in_of q 0)) ≡ with_rest (take_turn (next_turn tree leaf s q) s p o q (front s (in_of q 0))) rest
unfolding with_rest
fire-rest tree leaf s rest p o q = turn-rest (next_turn tree leaf s q) s rest p o q (front s (in_of q 0))

pub rest_stays : (tree : Tree) (leaf : Leaf) (net : Net) (s : State) (rest : List (List ℤ)) (p : ℕ) (o : LocalState) (q : Proc) → fire tree leaf net (with_rest s rest) p o q ≡ with_rest (fire tree leaf net s p o q) rest
unfolding fire
rest_stays tree leaf net s rest p o q =
    ap (λ b. cond b (release (with_rest s rest) p o q) (take_turn (next_turn tree leaf (with_rest s rest) q) (with_rest s rest) p o q (front (with_rest s rest) (in_of q 0)))) (can_release-rest net s rest o q)
    ∙ ap₂ (λ a b. cond (can_release net s o q) a b) (release-rest s rest p o q) (fire-rest tree leaf s rest p o q)
    ∙ with_rest-cond (can_release net s o q) (release s p o q) (take_turn (next_turn tree leaf s q) s p o q (front s (in_of q 0))) rest

-- the token of a number is one of those held
pub picked_all : (P : Token → Type 0) (n : ℕ) (xs : List Token) → has_number n xs ≡ true → AllByRecursion P xs → P (pick_number n xs)
unfolding has_number pick_number
picked_all P n [] h all = cc
picked_all P n (x ∷ xs) h all =
    elim (cases_Bool (nat_eq (second_tag x) n)) [
      | inl here ↦ subst P (sym (cond-true (nat_eq (second_tag x) n) _ _ here)) all.0
      | inr other ↦ subst P (sym (cond-false (nat_eq (second_tag x) n) _ _ other)) (picked_all P n xs (later (nat_eq (second_tag x) n) (has_number n xs) other h) all.1)
    ]
  where
    later : (a b : Bool) → a ≡ false → (a || b) ≡ true → b ≡ true
    later true b e k = cc
    later false b e k = k

pub dropped_all : (P : Token → Type 0) (n : ℕ) (xs : List Token) → AllByRecursion P xs → AllByRecursion P (drop_number n xs)
unfolding drop_number
dropped_all P n [] all = tt
dropped_all P n (x ∷ xs) all =
    elim (cases_Bool (nat_eq (second_tag x) n)) [
      | inl here ↦ subst (AllByRecursion P) (sym (cond-true (nat_eq (second_tag x) n) _ _ here)) all.1
      | inr other ↦ subst (AllByRecursion P) (sym (cond-false (nat_eq (second_tag x) n) _ _ other)) (all.0, dropped_all P n xs all.1)
    ]

-- a held outcome has n words
HeldLong : ℕ → Turn → Type 0
HeldLong n (Held outcome) = HasLength n outcome
HeldLong n Again = Unit {0}

held_by_cond : (n : ℕ) (b : Bool) (x y : Turn) → HeldLong n x → HeldLong n y → HeldLong n (cond b x y)
held_by_cond n true x y h k = h
held_by_cond n false x y h k = k

tested_long : (n : ℕ) (answer w spent : Outcome) (more : Bool) → HasLength n w → HasLength n spent → HeldLong n (by_test answer w spent more)
unfolding by_test HeldLong
tested_long n (Trapped trap) w spent more long last = tt
tested_long n (Value answer) w spent more long last =
    held_by_cond n (is_done answer) (Held w) (cond more Again (Held spent)) long (held_by_cond n more Again (Held spent) tt last)

turn_long : (n : ℕ) (test : Outcome → Outcome) (spent : Outcome) (more : Bool) (body : Outcome) → HasLength n body → HasLength n spent → HeldLong n (turn_of test spent more body)
unfolding turn_of HeldLong
turn_long n test spent more (Trapped trap) long last = tt
turn_long n test spent more (Value words) long last = tested_long n (test (Value words)) (Value words) spent more long last

module _ {tree : Tree} {net : Net} {widths : Widths} (leaf : Leaf) (s : State) (p : ℕ) (o : LocalState) (q : Proc) (fit : IsFitting tree net widths s) (stands : slice_get net.procs p ≡ Some q) (kind : q.kind ≡ Tail) (fits_q : Fits tree widths q) where
  pub released_fits : out_of q 2 ≢ out_of q 0 → can_release net s o q ≡ true → Keeps widths q o → IsFitting tree net widths (release s p o q)
  unfolding can_release release after_release
  released_fits apart h keeps =
      let both = and_parts _ _ h in
      let rooms = and_parts _ _ both.1 in
      let x : Token = pick_number o.number o.held in
      let token : FitsToken widths (in_of q 0) x = picked_all (FitsToken widths (in_of q 0)) o.number o.held both.0 keeps in
      let outside : ℕ = widths.tags (out_of q 0) in
      let long : length x.tags ≡ outside + 1 + 1 = (let all : length x.tags ≡ outside + 2 = token.tags ∙ fits_q.takes.tags in omega (arith, all)) in
      let once = later_long x.tags (outside + 1) long in
      fitting-own _
      (fitting-push (push s (out_of q 0) (untagged (untagged x)))
      (fitting-push s fit (out_of q 0) (untagged (untagged x)) rooms.0
      (record { words = subst (λ n. HasLength n x.body) (fits_q.takes.words ∙ sym fits_q.gives) token.words; tags = later_long (untagged x).tags outside once }))
      (out_of q 2) credit (room-push net s (out_of q 0) (out_of q 2) (untagged (untagged x)) apart rooms.1)
      (record { words = sym fits_q.credits.words; tags = sym fits_q.credits.tags }))
      p q Tail (after_release o) stands kind (dropped_all (FitsToken widths (in_of q 0)) o.number o.held keeps)

  turned_fits : (turn : Turn) → HeldLong (widths.words (in_of q 0)) turn → has_first (s.tokens (in_of q 0)) ≡ true → has_room net s (out_of q 1) ≡ true → Keeps widths q o → IsFitting tree net widths (take_turn turn s p o q (front s (in_of q 0)))
  unfolding take_turn HeldLong
  turned_fits (Held outcome) long full room keeps =
      let token : FitsToken widths (in_of q 0) (front s (in_of q 0)) = front_fits s fit (in_of q 0) full in
      let held : Token = record { tags = (front s (in_of q 0)).tags; body = outcome } in
      fitting-own _ (fitting-pop s fit (in_of q 0)) p q Tail (gathering o held) stands kind
      (all_push (FitsToken widths (in_of q 0)) o.held held keeps (record { words = long; tags = token.tags }))
  turned_fits Again long full room keeps =
      let token : FitsToken widths (in_of q 0) (front s (in_of q 0)) = front_fits s fit (in_of q 0) full in
      let has = width_of _ fits_q.takes token in
      fitting-push (pop s (in_of q 0)) (fitting-pop s fit (in_of q 0)) (out_of q 1) (once_more (front s (in_of q 0))) (room-pop net s (in_of q 0) (out_of q 1) room)
      (fits_width _ fits_q.back (record { words = has.words; tags = next_long (front s (in_of q 0)).tags ∙ has.tags }))

  next_long_held : has_first (s.tokens (in_of q 0)) ≡ true → HeldLong (widths.words (in_of q 0)) (next_turn tree leaf s q)
  unfolding spent_of
  next_long_held full =
      turn_long (widths.words (in_of q 0)) (test_of tree leaf q.node) (spent_of tree q.node) (nat_lt (newest_tag (front s (in_of q 0))) (turns_of tree q.node)) (front s (in_of q 0)).body
      (front_fits s fit (in_of q 0) full).words tt

  or_right : (a b : Bool) → a ≡ false → (a || b) ≡ true → b ≡ true
  or_right true b e h = cc
  or_right false b e h = h

  pub taken_fits : has_first (s.tokens (in_of q 0)) ≡ true → has_room net s (out_of q 1) ≡ true → Keeps widths q o → IsFitting tree net widths (take_turn (next_turn tree leaf s q) s p o q (front s (in_of q 0)))
  taken_fits full room keeps = turned_fits (next_turn tree leaf s q) (next_long_held full) full room keeps

  pub fits : out_of q 2 ≢ out_of q 0 → can net s o q ≡ true → Keeps widths q o → IsFitting tree net widths (fire tree leaf net s p o q)
  unfolding can fire
  fits apart h keeps =
      elim (cases_Bool (can_release net s o q)) [
        | inl leaves ↦ subst (IsFitting tree net widths) (sym (cond-true (can_release net s o q) _ _ leaves)) (released_fits apart leaves keeps)
        | inr stays ↦
            let both = and_parts _ _ (or_right _ _ stays h) in
            subst (IsFitting tree net widths) (sym (cond-false (can_release net s o q) _ _ stays)) (turned_fits (next_turn tree leaf s q) (next_long_held both.0) both.0 both.1 keeps)
      ]
