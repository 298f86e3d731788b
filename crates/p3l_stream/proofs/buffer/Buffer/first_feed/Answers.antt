use Rattle.std.proofs.Common.{◌≡◌, ℕ, ◌-◌, ◌≤◌, List, Some, None, drop, take, length, position, ap, sym, ◌∙◌, arith, length-drop}
use Rattle.std.proofs.lemmas.List.{drop-drop, take_all}
use Rattle.p3l_stream.specs.Ended.{IsLine}
use Rattle.p3l_stream.specs.Lines.{is_feed}
use Rattle.p3l_stream.proofs.Feeds.{feed_after, line_by_halves}
use Rattle.p3l_stream.proofs.buffer.Buffer.first_feed.Goals as goal

-- the bytes that were not searched come after those that were
after : (bytes : List ℕ) (start searched : ℕ) → start ≤ searched → drop (searched - start) (drop start bytes) ≡ drop searched bytes
after bytes start searched order = drop-drop (searched - start) start bytes ∙ ap (λ n. drop n bytes) (omega arith)

-- all bytes are a line where those that were not searched are one too
whole : (bytes : List ℕ) (start searched : ℕ) → start ≤ searched → IsLine (take (searched - start) (drop start bytes)) → None ≡ position is_feed (drop searched bytes) → IsLine (drop start bytes)
whole bytes start searched order front none =
    line_by_halves (drop start bytes) (searched - start) front (ap (position is_feed) (after bytes start searched order) ∙ sym none)

-- the bytes of a slice up to its end
slice_to_end : (slice bytes : List ℕ) (n : ℕ) → slice ≡ bytes → take (length slice - n) (drop n slice) ≡ drop n bytes
slice_to_end slice bytes n is = take_all (length slice - n) (drop n slice) (omega (arith, length-drop n slice)) ∙ ap (λ (l : List ℕ). drop n l) is

pub invariant_of-self : goal.invariant_of-self
invariant_of-self c =
    let it = c.self.inside in
    let none : None ≡ position is_feed (drop it.searched it.bytes.items) = c.in-None.ensures ∙ ap (position is_feed) (slice_to_end _ _ it.searched c.as_slice.ensures.value) in
    let all : IsLine (drop it.start it.bytes.items) = whole it.bytes.items it.start it.searched c.self.invariant.0 c.self.invariant.2 none in
    (omega arith, omega arith, ap (position is_feed) (take_all (c.len-self-inside.result - it.start) (drop it.start it.bytes.items) (omega (arith, length-drop it.start it.bytes.items))) ∙ all)

pub returns-in-Some-clause-first : goal.returns-in-Some-clause-first
returns-in-Some-clause-first c =
    let it = c.self.inside in
    let back : Some c.in-Some.place ≡ position is_feed (drop (it.searched - it.start) (drop it.start it.bytes.items)) =
    c.in-Some.ensures ∙ ap (position is_feed) (slice_to_end _ _ it.searched c.as_slice.ensures.value ∙ sym (after it.bytes.items it.start it.searched c.self.invariant.0)) in
    let found = feed_after (drop it.start it.bytes.items) (it.searched - it.start) c.in-Some.place (omega (arith, length-drop it.start it.bytes.items)) c.self.invariant.2 back in
    found ∙ ap (position is_feed) c.self.view_is

pub returns-in-None-clause-first : goal.returns-in-None-clause-first
returns-in-None-clause-first c =
    let it = c.self.inside in
    let none : None ≡ position is_feed (drop it.searched it.bytes.items) = c.in-None.ensures ∙ ap (position is_feed) (slice_to_end _ _ it.searched c.as_slice.ensures.value) in
    sym (ap (position is_feed) (sym c.self.view_is) ∙ whole it.bytes.items it.start it.searched c.self.invariant.0 c.self.invariant.2 none)
