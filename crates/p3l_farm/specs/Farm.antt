-- The template of a farm on demand.
use Rattle.std.specs.Prelude.{◌≡◌, ℕ, ◌+◌, ◌-◌, ◌<◌, Option, ◌&&◌, Bool, true, List, [], ◌∷◌, ◌++◌, length, get_or, nat_eq, nat_lt}
use Rattle.p3l_skel.specs.declared.tree.Form.TheVariants.{Farm}
use Rattle.p3l_skel.specs.declared.tree.Tree.{Tree}
use Rattle.p3l_skel.specs.Counts.{IsLawfulCount}
use Rattle.p3l_skel.specs.Lawful.{HasWords}
use Rattle.p3l_skel.specs.Tree.{node_at, part_at}
use Rattle.p3l_firing.specs.declared.process.Proc.{Proc}
use Rattle.p3l_firing.specs.declared.process.ProcKind.TheVariants.{Emit, Collect}
use Rattle.p3l_firing.specs.declared.token.Token.{Token}
use Rattle.p3l_firing.specs.State.{State}
use Rattle.p3l_firing.specs.Token.{newest_tag}
use Rattle.p3l_template.specs.Bag.{read, numbered}
use Rattle.p3l_template.specs.Fan.{Fanned, fan_part, fan_shape, first_proc, last_proc}
use Rattle.p3l_template.specs.Part.{Part, line, no_part, all_orderly, due}
use Rattle.p3l_template.specs.Shape.{Blueprint, Role, Base}
use Rattle.p3l_template.specs.Sum.{sum_of}
use Rattle.p3l_template.specs.Units.{Units}

-- all these tokens have greater numbers than k
unfoldable pub all_above : ℕ → List Token → Bool
all_above k [] = true
all_above k (x ∷ xs) = nat_lt k (newest_tag x) && all_above k xs

-- the numbers rise from each token of a line to the next
unfoldable pub rising : List Token → Bool
rising [] = true
rising (x ∷ xs) = all_above (newest_tag x) xs && rising xs

unfoldable pub all_rising : List (List Token) → Bool
all_rising [] = true
all_rising (l ∷ ls) = rising l && all_rising ls

-- the tokens of all lines
unfoldable pub joined : List (List Token) → List Token
joined [] = []
joined (l ∷ ls) = l ++ joined ls

-- the farm's view of a state
pub record View : Type 0 where
  -- the numbers in Emit and Collect: the next one, and the one that is expected
  pub next : ℕ
  pub least : ℕ
  -- the lines of the workers
  pub lines : List (List Token)
  -- the tokens that wait, and those that have left
  pub input : List Token
  pub output : List Token

-- the tokens still to leave: those of all lines in the order of their numbers, which they lose
unfoldable pub to_come : View → List Token
to_come v = read (joined v.lines) v.least (length (joined v.lines))

-- the numbers of the tokens are those from `least` up to `next`, each once, and they rise in each line
unfoldable pub well_kept : View → Bool
well_kept v =
    nat_eq (v.least + length (joined v.lines)) v.next && (numbered (joined v.lines) v.least && all_rising v.lines)

unfoldable pub lines_of : List Part → State → List (List Token)
lines_of [] s = []
lines_of (P ∷ Ps) s = line P s ∷ lines_of Ps s

-- Emit reads what comes in, and writes the in channels of the workers
abbrev pub emit_proc : ℕ → ℕ → Base → Proc
emit_proc = first_proc Emit

-- Collect reads the out channels of the workers, and writes what goes out
abbrev pub collect_proc : ℕ → ℕ → Base → Proc
collect_proc = last_proc Collect

abbrev pub view_of : Base → List Part → State → View
view_of base parts s =
    record {
      next = (s.own base.proc).number;
      least = (s.own (base.proc + 1)).number;
      lines = lines_of parts s;
      input = s.tokens base.input;
      output = s.tokens base.output;
    }

-- a farm of n workers, as the node of a skeleton
abbrev pub farmed : ℕ → Fanned
farmed n =
    record {
      meaning = λ units roles. (roles 0).meaning;
      firings = λ units roles. 2 + (roles 0).firings;
      pending = λ units roles base parts s. to_come (view_of base parts s);
      orderly = λ units roles base parts s. all_orderly parts s && well_kept (view_of base parts s);
      owed = λ units roles base parts s.
          sum_of (λ w. due (get_or parts w no_part) s) n + ((s.own base.proc).number - (s.own (base.proc + 1)).number);
    }

abbrev pub farm_part : ℕ → Units → (ℕ → Role) → Base → List Part → Part
farm_part n = fan_part n (farmed n)

-- a farm of n workers
abbrev pub farm_shape : (node n : ℕ) → Blueprint
farm_shape node n = fan_shape Emit Collect node n (farmed n)

-- a node of a tree that is a farm of n workers
pub record IsFarmNode (tree : Tree) (node n : ℕ) : Type 0 where
  pub there : node < length tree.nodes
  pub clause : Option ℕ
  pub form : (node_at tree node).form ≡ Farm clause
  pub count : IsLawfulCount (node_at tree node).form n
  pub part : HasWords tree (part_at tree node 0) (node_at tree node).ins (node_at tree node).outs
