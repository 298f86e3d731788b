-- Numbers of tokens inside parts. Intervals of channels and processes split (`channels_from`, `hands_from`), and sums over
-- channels and over parts are the same counts (`channels_sum`, `insides_sum`). A template with inner parts holds the tokens of
-- these parts, those in its channels and those of the processes before them (`around_inside`).
use Rattle.std.proofs.Common.{◌≡◌, ℕ, zero, suc, ◌+◌, ◌-◌, ◌*◌, ◌≤◌, List, [], ◌∷◌, length, sym, ap, ap₂, ◌∙◌, arith, length-append, get_or, refl}
use Rattle.std.proofs.lemmas.List.{length-map}
use Rattle.p3l_firing.specs.State.{State}
use Rattle.p3l_firing.specs.Token.{over}
use Rattle.p3l_firing.specs.declared.net.Net.{Net}
use Rattle.p3l_template.specs.Part.{Part, line, in_channels, in_hands, inside, no_part}
use Rattle.p3l_template.specs.Placed.{AreChained, proc_end, chan_end}
use Rattle.p3l_template.specs.Shape.{Role, Slot}
use Rattle.p3l_template.specs.Sum.{sum_of}
use Rattle.p3l_template.specs.Units.{Units}
use Rattle.p3l_template.specs.laws.Chain.{chain_grows}
use Rattle.p3l_template.specs.laws.SumLaw.{sum_up}

unfoldable pub insides : List Part → State → ℕ
insides [] s = 0
insides (P ∷ Ps) s = inside P s + insides Ps s

pub channels_split : (s : State) (c j k : ℕ) → in_channels s c (j + k) ≡ in_channels s c j + in_channels s (c + j) k
unfolding in_channels
channels_split s c zero k =
    let e : c ≡ c + 0 = omega arith in
    let f : 0 + k ≡ k = omega arith in
    let g = ap₂ (λ x y. in_channels s x y) e f in
    omega (arith, g)
channels_split s c (suc j) k =
    let e : suc j + k ≡ suc (j + k) = omega arith in
    let d : suc c + j ≡ c + suc j = omega arith in
    let r = channels_split s (suc c) j k ∙ ap (λ x. in_channels s (suc c) j + in_channels s x k) d in
    ap (in_channels s c) e ∙ omega (arith, r)

pub hands_split : (s : State) (p j k : ℕ) → in_hands s p (j + k) ≡ in_hands s p j + in_hands s (p + j) k
unfolding in_hands
hands_split s p zero k =
    let e : p ≡ p + 0 = omega arith in
    let f : 0 + k ≡ k = omega arith in
    let g = ap₂ (λ x y. in_hands s x y) e f in
    omega (arith, g)
hands_split s p (suc j) k =
    let e : suc j + k ≡ suc (j + k) = omega arith in
    let d : suc p + j ≡ p + suc j = omega arith in
    let r = hands_split s (suc p) j k ∙ ap (λ x. in_hands s (suc p) j + in_hands s x k) d in
    ap (in_hands s p) e ∙ omega (arith, r)

pub channels_from : (s : State) (a b c : ℕ) → a ≤ b → b ≤ c →
    in_channels s a (c - a) ≡ in_channels s a (b - a) + in_channels s b (c - b)
channels_from s a b c f l =
    let e : c - a ≡ (b - a) + (c - b) = omega arith in
    let d : a + (b - a) ≡ b = omega arith in
    ap (in_channels s a) e ∙ channels_split s a (b - a) (c - b)
    ∙ ap (λ x. in_channels s a (b - a) + in_channels s x (c - b)) d

pub hands_from : (s : State) (a b c : ℕ) → a ≤ b → b ≤ c →
    in_hands s a (c - a) ≡ in_hands s a (b - a) + in_hands s b (c - b)
hands_from s a b c f l =
    let e : c - a ≡ (b - a) + (c - b) = omega arith in
    let d : a + (b - a) ≡ b = omega arith in
    ap (in_hands s a) e ∙ hands_split s a (b - a) (c - b) ∙ ap (λ x. in_hands s a (b - a) + in_hands s x (c - b)) d

-- as sums
pub channels_sum : (s : State) (c n : ℕ) → sum_of (λ w. length (s.tokens (c + w))) n ≡ in_channels s c n
unfolding sum_of in_channels
channels_sum s c zero = refl
channels_sum s c (suc n) =
    let r = channels_sum s c n in
    let e : n + 1 ≡ suc n = omega arith in
    let a = channels_split s c n 1 in
    let b = ap (in_channels s c) e in
    omega (arith, r, a, b)

pub insides_sum : (Ps : List Part) (s : State) → insides Ps s ≡ sum_of (λ w. inside (get_or Ps w no_part) s) (length Ps)
unfolding sum_of insides
insides_sum [] s = refl
insides_sum (P ∷ Ps) s = let r = insides_sum Ps s in
    let a = sum_up (λ w. inside (get_or (P ∷ Ps) w no_part) s) (length Ps) in omega (arith, r, a)

module _ (net : Net) (units : Units) (roles : ℕ → Role) where
  -- the inner parts hold all that is from the first to the end
  pub chain_inside : (p c : ℕ) (xs : List Slot) (Ps : List Part) → AreChained net units roles p c xs Ps → (s : State) →
      in_channels s c (chan_end c Ps - c) + in_hands s p (proc_end p Ps - p) ≡ insides Ps s
  unfolding AreChained proc_end chan_end in_channels in_hands insides inside
  chain_inside p c [] [] h s =
      let a : c - c ≡ 0 = omega arith in
      let b : p - p ≡ 0 = omega arith in
      ap₂ (λ x y. in_channels s c x + in_hands s p y) a b
  chain_inside p c (x ∷ xs) (P ∷ Ps) h s =
      let g = chain_grows net units roles P.proc_to P.chan_to xs Ps h.1 in
      let r = chain_inside P.proc_to P.chan_to xs Ps h.1 s in
      let a = channels_from s P.chan_from P.chan_to (chan_end P.chan_to Ps) h.0.lawful.chans g.1 in
      let b = hands_from s P.proc_from P.proc_to (proc_end P.proc_to Ps) h.0.lawful.procs g.0 in
      ap₂ (λ x y. in_channels s x (chan_end P.chan_to Ps - x) + in_hands s y (proc_end P.proc_to Ps - y)) (sym h.0.chan)
      (sym h.0.proc)
      ∙ omega (arith, a, b, r)
  chain_inside p c [] (P ∷ Ps) h s = absurd h
  chain_inside p c (x ∷ xs) [] h s = absurd h

  -- with j processes and k channels before them
  pub around_inside : (p c j k : ℕ) (xs : List Slot) (Ps : List Part) →
      AreChained net units roles (p + j) (c + k) xs Ps → (s : State) →
      in_channels s c (chan_end (c + k) Ps - c) + in_hands s p (proc_end (p + j) Ps - p)
      ≡ (in_channels s c k + in_hands s p j) + insides Ps s
  around_inside p c j k xs Ps h s =
      let g = chain_grows net units roles (p + j) (c + k) xs Ps h in
      let r = chain_inside (p + j) (c + k) xs Ps h s in
      let a = channels_from s c (c + k) (chan_end (c + k) Ps) (omega arith) g.1 in
      let b = hands_from s p (p + j) (proc_end (p + j) Ps) (omega arith) g.0 in
      let d : (c + k) - c ≡ k = omega arith in
      let e : (p + j) - p ≡ j = omega arith in
      let f = ap₂ (λ x y. in_channels s c x + in_hands s p y) d e in
      omega (arith, a, b, r, f)

pub times_le : (f a b : ℕ) → a ≤ b → f * a ≤ f * b
times_le f a b l = let e : b ≡ a + (b - a) = omega arith in
    let d : f * b ≡ f * a + f * (b - a) = ap (λ z. f * z) e ∙ omega arith in omega (arith, d)

pub line_length : (P : Part) (s : State) →
    length (line P s) ≡ length (s.tokens P.output) + (length (P.pending s) + length (s.tokens P.input))
unfolding line
line_length P s =
    length-append (s.tokens P.output) _
    ∙ ap (λ z. length (s.tokens P.output) + z)
    (length-append (P.pending s) _
    ∙ ap (λ z. length (P.pending s) + z) (length-map (s.tokens P.input) (over P.meaning)))
