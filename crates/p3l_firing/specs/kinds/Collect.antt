-- Collects, which take the tokens of the workers of a farm in the order of dealing.
use Rattle.std.specs.Prelude.{◌≡◌, ℕ, ◌+◌, ◌<◌, nat_eq, cond, is_some, Bool, false, ◌&&◌, Option, None, Some, List, [], ◌∷◌, length}
use Rattle.p3l_skel.specs.declared.tree.Form.TheVariants.{Farm}
use Rattle.p3l_skel.specs.declared.tree.Tree.{Tree}
use Rattle.p3l_skel.specs.Tree.{node_at}
use Rattle.p3l_skel.specs.Counts.{IsLawfulCount}
use Rattle.p3l_firing.specs.declared.process.Proc.{Proc}
use Rattle.p3l_firing.specs.declared.net.Net.{Net}
use Rattle.p3l_firing.specs.declared.token.Token.{Token}
use Rattle.p3l_firing.specs.Token.{newest_tag, untagged}
use Rattle.p3l_firing.specs.State.{LocalState, State, front, pop, push, set_own, counted, has_room}
use Rattle.p3l_firing.specs.Process.{out_of}
use Rattle.p3l_firing.specs.Widths.{Widths, AllCarry}

-- the first token has number n
unfoldable pub front_is : ℕ → List Token → Bool
front_is n [] = false
front_is n (token ∷ tokens) = nat_eq (newest_tag token) n

-- the first of these channels whose first token has number n
unfoldable pub due_in : State → ℕ → List ℕ → Option ℕ
due_in s n [] = None
due_in s n (c ∷ cs) = cond (front_is n (s.tokens c)) (Some c) (due_in s n cs)

-- it can fire where the token that is expected has come, and there is room for it
unfoldable pub can : Net → State → LocalState → Proc → Bool
can net s o q = is_some (due_in s o.number q.ins) && has_room net s (out_of q 0)

-- the state after process p took the token that is expected from channel c
unfoldable pub taken_from : Option ℕ → State → ℕ → LocalState → Proc → State
taken_from None s p o q = s
taken_from (Some c) s p o q = set_own (push (pop s c) (out_of q 0) (untagged (front s c))) p (counted o)

-- it takes the token whose number is expected, and hands it on without that tag
unfoldable pub fire : State → ℕ → LocalState → Proc → State
fire s p o q = taken_from (due_in s o.number q.ins) s p o q

-- the channels that its condition reads
abbrev pub reads : Proc → List ℕ
reads q = out_of q 0 ∷ q.ins

-- it reads the channels of the workers of a farm, and writes one, with a tag less
pub record Fits (tree : Tree) (widths : Widths) (q : Proc) : Type 0 where
  pub arg : q.arg ≡ 0
  pub node : q.node < length tree.nodes
  pub workers : Option ℕ
  pub form : (node_at tree q.node).form ≡ Farm workers
  pub count : IsLawfulCount (node_at tree q.node).form (length q.ins)
  pub outs : q.outs ≡ out_of q 0 ∷ []
  pub takes : AllCarry widths q.ins (node_at tree q.node).outs (widths.tags (out_of q 0) + 1)
  pub gives : widths.words (out_of q 0) ≡ (node_at tree q.node).outs
