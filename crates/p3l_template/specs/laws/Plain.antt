-- Channels of the net's capacity without credits. Each of n such channels has room for a token (`plain_room`).
-- Where they are in a net from c on, each of them is empty before anything has fired
-- (`plain_empty`). Every template but the loop lays such channels alone.
use Rattle.std.proofs.Common.{◌≡◌, ℕ, zero, suc, ◌+◌, ◌≤◌, ◌<◌, [], length, get_or, replicate, sym, ap, ◌∙◌, subst, arith}
use Rattle.std.proofs.lemmas.List.{length-replicate, get_or-replicate}
use Rattle.p3l_template.specs.Shape.{empty_chan}
use Rattle.p3l_firing.specs.State.{no_chan, at_first}
use Rattle.p3l_firing.specs.Token.{credit}
use Rattle.p3l_firing.specs.declared.net.Net.{Net}
use Rattle.p3l_template.specs.Placed.{AreLaid}

pub plain_room : (n cap k : ℕ) → 0 < cap → k < length (replicate n (empty_chan cap)) →
    0 < (get_or (replicate n (empty_chan cap)) k no_chan).cap
plain_room n cap k h l =
    subst (λ z. 0 < z.cap) (sym (get_or-replicate n k (empty_chan cap) no_chan (omega (arith, length-replicate n (empty_chan cap))))) h

-- such channels begin empty
pub plain_empty : (net : Net) (c n cap : ℕ) → AreLaid net c (replicate n (empty_chan cap)) → (k : ℕ) → k < n →
    at_first net (c + k) ≡ []
unfolding at_first
plain_empty net c n cap laid k l =
    ap (λ z. replicate z.credits credit)
    (laid.at k (omega (arith, length-replicate n (empty_chan cap))) ∙ get_or-replicate n k (empty_chan cap) no_chan l)

-- such channels have no credits
pub plain_credits : {A : Type 0} (n cap k : ℕ) →
    ((get_or (replicate n (empty_chan cap)) k no_chan).credits ≤ (get_or (replicate n (empty_chan cap)) k no_chan).cap)
    × (0 < (get_or (replicate n (empty_chan cap)) k no_chan).credits → A)
plain_credits zero cap k = (omega arith, λ h. absurd (omega (arith, h)))
plain_credits (suc n) cap zero = (omega arith, λ h. absurd (omega (arith, h)))
plain_credits (suc n) cap (suc k) = plain_credits n cap k
