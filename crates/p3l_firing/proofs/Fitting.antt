-- Each step of a row keeps that a state fits its net.
use Rattle.std.proofs.Common.{◌≡◌, ◌≢◌, ℕ, ◌<◌, ◌≤◌, zero, suc, List, [], ◌∷◌, ◌++◌, length, Some, slice_get, nat_lt, sym, ap, ◌∙◌, subst, inl, inr, true, arith, replicate, length-append, lt-ltb}
use Rattle.std.specs.List.{AllByRecursion, flat_map}
use Rattle.std.proofs.lemmas.Bool.{cases_eq, cases_lt, ltb-true}
use Rattle.std.proofs.lemmas.List.{get_or_past, length-replicate}
use Rattle.p3l_skel.specs.declared.tree.Tree.{Tree}
use Rattle.p3l_ready.specs.At.{at}
use Rattle.p3l_ready.proofs.AtLemmas.{at-same, at-other}
use Rattle.p3l_firing.specs.declared.process.Proc.{Proc}
use Rattle.p3l_firing.specs.declared.process.ProcKind.{ProcKind}
use Rattle.p3l_firing.specs.declared.net.Net.{Net}
use Rattle.p3l_firing.specs.declared.token.Token.{Token}
use Rattle.p3l_firing.specs.Lists.{has_first, first_or, rest_of}
use Rattle.p3l_firing.specs.Token.{credit}
use Rattle.p3l_firing.specs.State.{LocalState, State, front, pop, push, set_own, has_room, at_first, chan_at}
use Rattle.p3l_firing.specs.Widths.{Widths, Carries, FitsToken, AllFit}
use Rattle.p3l_firing.specs.Typed.{FitsOwn, IsTyped, IsFitting}

all_left : {B : Type 0} (P : B → Type 0) (xs ys : List B) → AllByRecursion P (xs ++ ys) → AllByRecursion P xs
all_left P [] ys all = tt
all_left P (x ∷ xs) ys all = (all.0, all_left P xs ys all.1)

all_right : {B : Type 0} (P : B → Type 0) (xs ys : List B) → AllByRecursion P (xs ++ ys) → AllByRecursion P ys
all_right P [] ys all = all
all_right P (x ∷ xs) ys all = all_right P xs ys all.1

pub all_push : {B : Type 0} (P : B → Type 0) (xs : List B) (y : B) → AllByRecursion P xs → P y → AllByRecursion P (xs ++ y ∷ [])
all_push P [] y all h = (h, tt)
all_push P (x ∷ xs) y all h = (all.0, all_push P xs y all.1 h)

pub all_rest : {B : Type 0} (P : B → Type 0) (xs : List B) → AllByRecursion P xs → AllByRecursion P (rest_of xs)
all_rest P [] all = tt
all_rest P (x ∷ xs) all = all.1

pub all_first : {B : Type 0} (P : B → Type 0) (none : B) (xs : List B) → has_first xs ≡ true → AllByRecursion P xs → P (first_or none xs)
all_first P none [] h all = cc
all_first P none (x ∷ xs) h all = all.0

-- a property of each element of joined lists holds of each element of one of them
pub all_of_one : {A B : Type 0} (P : B → Type 0) (f : A → List B) (xs : List A) (i : ℕ) (x : A) → slice_get xs i ≡ Some x → AllByRecursion P (flat_map f xs) → AllByRecursion P (f x)
all_of_one P f [] i x h all = cc
all_of_one P f (y ∷ ys) zero x h all = subst (λ z. AllByRecursion P (f z)) (let e : y ≡ x = cc in e) (all_left P (f y) _ all)
all_of_one P f (y ∷ ys) (suc i) x h all = all_of_one P f ys i x h (all_right P (f y) _ all)

pub rest_is_shorter : {A : Type 0} (xs : List A) → length (rest_of xs) ≤ length xs
rest_is_shorter [] = omega arith
rest_is_shorter (x ∷ xs) = omega arith

-- a channel with room still has room after a token was taken
pub room-pop : (net : Net) (s : State) (a c : ℕ) → has_room net s c ≡ true → has_room net (pop s a) c ≡ true
unfolding has_room pop
room-pop net s a c h =
    elim (cases_eq c a) [
      | inl e ↦
          let less = rest_is_shorter (s.tokens a) in
          let room : length (s.tokens a) < (chan_at net a).cap = subst (λ k. length (s.tokens k) < (chan_at net k).cap) e (ltb-true _ _ h) in
          subst (λ k. nat_lt (length (at s.tokens a (rest_of (s.tokens a)) k)) (chan_at net k).cap ≡ true) (sym e)
          (subst (λ ts. nat_lt (length ts) (chan_at net a).cap ≡ true) (sym (at-same s.tokens a _)) (lt-ltb _ _ (omega (arith, less, room))))
      | inr e ↦ subst (λ ts. nat_lt (length ts) (chan_at net c).cap ≡ true) (sym (at-other s.tokens a _ c e)) h
    ]

-- a channel with room still has room after a token was put into another
pub room-push : (net : Net) (s : State) (a c : ℕ) (token : Token) → c ≢ a → has_room net s c ≡ true → has_room net (push s a token) c ≡ true
unfolding has_room push
room-push net s a c token e h = subst (λ ts. nat_lt (length ts) (chan_at net c).cap ≡ true) (sym (at-other s.tokens a _ c e)) h

module _ {tree : Tree} {net : Net} {widths : Widths} (s : State) (fit : IsFitting tree net widths s) where
  -- a channel whose tokens are others, of the right width and number
  module _ (c : ℕ) (tokens : List Token) (fits : AllFit widths c tokens) (few : length tokens ≤ (chan_at net c).cap) where
    tokens_at_all : (j : ℕ) → AllFit widths j (at s.tokens c tokens j)
    tokens_at_all j =
        elim (cases_eq j c) [
          | inl e ↦ subst (λ k. AllFit widths k (at s.tokens c tokens k)) (sym e) (subst (AllFit widths c) (sym (at-same s.tokens c tokens)) fits)
          | inr e ↦ subst (AllFit widths j) (sym (at-other s.tokens c tokens j e)) (fit.tokens j)
        ]

    rooms_at_all : (j : ℕ) → length (at s.tokens c tokens j) ≤ (chan_at net j).cap
    rooms_at_all j =
        elim (cases_eq j c) [
          | inl e ↦ subst (λ k. length (at s.tokens c tokens k) ≤ (chan_at net k).cap) (sym e) (subst (λ ts. length ts ≤ (chan_at net c).cap) (sym (at-same s.tokens c tokens)) few)
          | inr e ↦ subst (λ ts. length ts ≤ (chan_at net j).cap) (sym (at-other s.tokens c tokens j e)) (fit.rooms j)
        ]

  pub fitting-push : (c : ℕ) (token : Token) → has_room net s c ≡ true → FitsToken widths c token → IsFitting tree net widths (push s c token)
  unfolding push has_room
  fitting-push c token room h =
      let few : length (s.tokens c ++ token ∷ []) ≤ (chan_at net c).cap = let less = ltb-true _ _ room in omega (arith, less, length-append (s.tokens c) (token ∷ [])) in
      let all : AllFit widths c (s.tokens c ++ token ∷ []) = all_push _ (s.tokens c) token (fit.tokens c) h in
      record { rooms = rooms_at_all c _ all few; tokens = tokens_at_all c _ all few; owns = fit.owns; unsent = fit.unsent }

  pub fitting-pop : (c : ℕ) → IsFitting tree net widths (pop s c)
  unfolding pop
  fitting-pop c =
      let few : length (rest_of (s.tokens c)) ≤ (chan_at net c).cap = let less = rest_is_shorter (s.tokens c) in let room = fit.rooms c in omega (arith, less, room) in
      let all : AllFit widths c (rest_of (s.tokens c)) = all_rest _ (s.tokens c) (fit.tokens c) in
      record { rooms = rooms_at_all c _ all few; tokens = tokens_at_all c _ all few; owns = fit.owns; unsent = fit.unsent }

  -- the state still fits with a new local state of one process that fits its kind
  pub fitting-own : (p : ℕ) (q : Proc) (k : ProcKind) (o : LocalState) → slice_get net.procs p ≡ Some q → q.kind ≡ k → FitsOwn k tree widths q o → IsFitting tree net widths (set_own s p o)
  unfolding set_own
  fitting-own p q k o stands kind h = record {
    rooms = fit.rooms;
    tokens = fit.tokens;
    owns = λ r x there.
        elim (cases_eq r p) [
          | inl e ↦
              let same : Some q ≡ Some x = sym stands ∙ (ap (slice_get net.procs) (sym e) ∙ there) in
              let is : q ≡ x = cc in
              subst (λ i. FitsOwn x.kind tree widths x (at s.own p o i)) (sym e)
              (subst (FitsOwn x.kind tree widths x) (sym (at-same s.own p o))
              (subst (λ z. FitsOwn z.kind tree widths z o) is (subst (λ z. FitsOwn z tree widths q o) (sym kind) h)))
          | inr e ↦ subst (FitsOwn x.kind tree widths x) (sym (at-other s.own p o r e)) (fit.owns r x there)
        ];
    unsent = fit.unsent;
  }

  pub front_fits : (c : ℕ) → has_first (s.tokens c) ≡ true → FitsToken widths c (front s c)
  front_fits c full = all_first (FitsToken widths c) credit (s.tokens c) full (fit.tokens c)

-- the credits of a typed net fit
all_credits : (widths : Widths) (c n : ℕ) → (0 < n → Carries widths c 0 0) → AllFit widths c (replicate n credit)
all_credits widths c zero bare = tt
all_credits widths c (suc n) bare =
    let b : Carries widths c 0 0 = bare (omega arith) in
    (record { words = sym b.words; tags = sym b.tags }, all_credits widths c n (λ _. b))

pub fitting_at_first : (tree : Tree) (net : Net) (typed : IsTyped tree net) (c : ℕ) → AllFit typed.widths c (at_first net c) × (length (at_first net c) ≤ (chan_at net c).cap)
unfolding at_first
fitting_at_first tree net typed c =
    let long = length-replicate (chan_at net c).credits credit in
    elim (cases_lt c (length net.chans)) [
      | inl h ↦ let few = (typed.channels c h).credits in (all_credits typed.widths c _ (typed.channels c h).bare, omega (arith, few, long))
      | inr h ↦ subst (λ chan. AllFit typed.widths c (replicate chan.credits credit) × (length (replicate chan.credits credit) ≤ chan.cap)) (sym (get_or_past net.chans c _ h)) (tt, omega arith)
    ]
