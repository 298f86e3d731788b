-- Tails, which let tokens out of a loop, or send them round once more.
use Rattle.std.specs.Prelude.{◌≡◌, ℕ, ◌+◌, ◌<◌, nat_eq, nat_lt, cond, Bool, false, ◌&&◌, ◌||◌, List, [], ◌∷◌, length}
use Rattle.p3l_base.specs.declared.outcome.Outcome.{Outcome}
use Rattle.p3l_base.specs.declared.outcome.Outcome.TheVariants.{Value, Trapped}
use Rattle.p3l_skel.specs.declared.tree.Form.TheVariants.{Loop}
use Rattle.p3l_skel.specs.declared.tree.Tree.{Tree}
use Rattle.p3l_skel.specs.Tree.{node_at}
use Rattle.p3l_skel.specs.Item.{is_done}
use Rattle.p3l_firing.specs.declared.process.Proc.{Proc}
use Rattle.p3l_firing.specs.declared.net.Net.{Net}
use Rattle.p3l_firing.specs.declared.token.Token.{Token}
use Rattle.p3l_firing.specs.Lists.{has_first}
use Rattle.p3l_firing.specs.Token.{credit, newest_tag, second_tag, untagged, once_more}
use Rattle.p3l_firing.specs.Nodes.{Leaf, test_of, turns_of, spent_of}
use Rattle.p3l_firing.specs.State.{LocalState, State, front, pop, push, set_own, gathering, has_room}
use Rattle.p3l_firing.specs.Process.{in_of, out_of}
use Rattle.p3l_firing.specs.Widths.{Widths, Carries, AllFit}

-- a token held has this number; the first such; and the others
unfoldable pub has_number : ℕ → List Token → Bool
has_number n [] = false
has_number n (x ∷ xs) = nat_eq (second_tag x) n || has_number n xs

unfoldable pub pick_number : ℕ → List Token → Token
pick_number n [] = credit
pick_number n (x ∷ xs) = cond (nat_eq (second_tag x) n) x (pick_number n xs)

unfoldable pub drop_number : ℕ → List Token → List Token
drop_number n [] = []
drop_number n (x ∷ xs) = cond (nat_eq (second_tag x) n) xs (x ∷ drop_number n xs)

-- the fate of a token that comes out of the body: it is held with an outcome, or goes round once more
pub data Turn : Type 0 where
  Held : Outcome → Turn
  Again : Turn

-- by the condition's outcome on the body's outcome w, the trap of spent turns, and whether more turns are left
unfoldable pub by_test : Outcome → Outcome → Outcome → Bool → Turn
by_test (Trapped trap) w spent more = Held (Trapped trap)
by_test (Value answer) w spent more = cond (is_done answer) (Held w) (cond more Again (Held spent))

-- a trap is held; a value goes by the condition's outcome on it
unfoldable pub turn_of : (Outcome → Outcome) → Outcome → Bool → Outcome → Turn
turn_of test spent more (Trapped trap) = Held (Trapped trap)
turn_of test spent more (Value words) = by_test (test (Value words)) (Value words) spent more

-- it can let a token out: it holds the one whose number is expected, and there is room for it and
-- for a credit
unfoldable pub can_release : Net → State → LocalState → Proc → Bool
can_release net s o q = has_number o.number o.held && (has_room net s (out_of q 0) && has_room net s (out_of q 2))

-- it can fire where it can let a token out; or where one comes out of the body, and there is room for it to go round
unfoldable pub can : Net → State → LocalState → Proc → Bool
can net s o q = can_release net s o q || (has_first (s.tokens (in_of q 0)) && has_room net s (out_of q 1))

-- the local state after a token was let out
unfoldable pub after_release : LocalState → LocalState
after_release o = record { number = o.number + 1; held = drop_number o.number o.held }

-- the state after process p let the token out whose number is expected, without its two tags, and
-- gave back its credit
unfoldable pub release : State → ℕ → LocalState → Proc → State
release s p o q =
    set_own (push (push s (out_of q 0) (untagged (untagged (pick_number o.number o.held)))) (out_of q 2) credit) p (after_release o)

-- the state after process p took the token x that came out of the body
unfoldable pub take_turn : Turn → State → ℕ → LocalState → Proc → Token → State
take_turn (Held outcome) s p o q x = set_own (pop s (in_of q 0)) p (gathering o (record x { body = outcome }))
take_turn Again s p o q x = push (pop s (in_of q 0)) (out_of q 1) (once_more x)

-- the fate of the first token that came out of the body
abbrev pub next_turn : Tree → Leaf → State → Proc → Turn
next_turn tree leaf s q =
    turn_of (test_of tree leaf q.node) (spent_of tree q.node) (nat_lt (newest_tag (front s (in_of q 0))) (turns_of tree q.node))
    (front s (in_of q 0)).body

-- it lets a token out, if it can; else it takes one
unfoldable pub fire : Tree → Leaf → Net → State → ℕ → LocalState → Proc → State
fire tree leaf net s p o q =
    cond (can_release net s o q) (release s p o q) (take_turn (next_turn tree leaf s q) s p o q (front s (in_of q 0)))

-- the channels that its condition reads
abbrev pub reads : Proc → List ℕ
reads q = in_of q 0 ∷ (out_of q 0 ∷ (out_of q 1 ∷ (out_of q 2 ∷ [])))

-- it reads what comes out of the body, and writes outside, with two tags less, back to the head, and the credits
pub record Fits (tree : Tree) (widths : Widths) (q : Proc) : Type 0 where
  pub arg : q.arg ≡ 0
  pub node : q.node < length tree.nodes
  pub turns : ℕ
  pub tokens : ℕ
  pub form : (node_at tree q.node).form ≡ Loop turns tokens
  pub ins : q.ins ≡ in_of q 0 ∷ []
  pub outs : q.outs ≡ out_of q 0 ∷ (out_of q 1 ∷ (out_of q 2 ∷ []))
  pub takes : Carries widths (in_of q 0) (node_at tree q.node).outs (widths.tags (out_of q 0) + 2)
  pub back : Carries widths (out_of q 1) (node_at tree q.node).outs (widths.tags (out_of q 0) + 2)
  pub credits : Carries widths (out_of q 2) 0 0
  pub gives : widths.words (out_of q 0) ≡ (node_at tree q.node).outs

-- the held tokens fit the in channel
abbrev pub Keeps : Widths → Proc → LocalState → Type 0
Keeps widths q o = AllFit widths (in_of q 0) o.held
