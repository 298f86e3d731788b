-- A network that runs a tree of skeletons, and its runs on items.
use Rattle.std.specs.Prelude.{◌≡◌, ℕ, ℤ, ◌*◌, Bool, true, false, List, [], ◌∷◌, length}
use Rattle.p3l_base.specs.declared.outcome.Outcome.{Outcome}
use Rattle.p3l_skel.specs.declared.tree.Tree.{Tree}
use Rattle.p3l_skel.specs.Item.{meaning}
use Rattle.p3l_skel.specs.Tree.{node_at}
use Rattle.p3l_firing.specs.declared.net.Net.{Net}
use Rattle.p3l_firing.specs.Fire.{can_fire}
use Rattle.p3l_firing.specs.NetInvariants.{Invariants, HasInvariants}
use Rattle.p3l_firing.specs.Outcomes.{IsPrefixOf}
use Rattle.p3l_firing.specs.Run.{Course, after_picks, course_from}
use Rattle.p3l_firing.specs.State.{State}
use Rattle.p3l_firing.specs.Typed.{IsTyped}
use Rattle.p3l_run.specs.declared.end.RunStats.{RunStats}
use Rattle.p3l_run.specs.Start.{CanBegin, IsWithin, Resumption, Start, fresh, most_from, outcomes_from, saved, state_from}
use Rattle.p3l_sched.specs.declared.schedule.Schedule.{Schedule}
use Rattle.p3l_sched.specs.declared.schedule.Schedule.TheVariants.{Recorded}
use Rattle.p3l_sched.specs.Course.{most_picks, picks_from}
use Rattle.p3l_sched.specs.Picker.{begun, ready_of}

-- a tree, the tree whose modules name its traps, what its `seq` modules do with words, the net that runs it, how often that can fire
-- for one item, and where its runs begin
pub record Network : Type 0 where
  pub tree : Tree
  pub named : Tree
  pub leaf : ℕ → List ℤ → Outcome
  pub net : Net
  pub firings : ℕ
  pub start : Start

-- the net is typed for the tree, some record carries it, with this number of firings an item, and by it the run can begin where it does
pub record IsSound (n : Network) : Type 0 where
  pub typed : IsTyped n.tree n.net
  pub has_invariants : (invariants : Invariants) × HasInvariants n.tree n.leaf n.net n.firings invariants
  pub begins : CanBegin n.start n.tree n.leaf n.net has_invariants.0

-- the count of words of an item
abbrev pub width_of : Network → ℕ
width_of n = (node_at n.tree 0).ins

-- the count of processes
abbrev pub size_of : Network → ℕ
size_of n = length n.net.procs

-- the outcomes of the items, with no process and no channel, after those of the tokens that were in the net
abbrev pub meaning_of : Network → List (List ℤ) → List Outcome
meaning_of n items = outcomes_from n.start (meaning n.tree n.leaf items)

-- the state in which a run on items begins
abbrev pub begun_with : Network → List (List ℤ) → State
begun_with n items = state_from n.start n.tree n.net items

-- the run on items under some picks
abbrev pub course_under : Network → List (List ℤ) → List ℕ → Course
course_under n items picks = after_picks n.tree n.leaf n.net (course_from (begun_with n items)) picks

-- the most firings of a run on items
abbrev pub most_firings : Network → List (List ℤ) → ℕ
most_firings n items = most_from n.start n.firings (length items)

-- the picks of a schedule for items
abbrev pub picks_of : Network → Schedule → List (List ℤ) → List ℕ
picks_of n schedule items =
    picks_from n.tree n.leaf n.net (most_picks schedule (most_firings n items)) (begun schedule) (course_from (begun_with n items))

-- the run on items under a schedule
unfoldable pub course_of : Network → Schedule → List (List ℤ) → Course
course_of n schedule items = course_under n items (picks_of n schedule items)

-- the processes that can fire where a run stands
abbrev pub ready_at : Network → Course → List ℕ
ready_at n c = ready_of (can_fire n.tree n.net c.state) (size_of n)

abbrev pub is_some : List ℕ → Bool
is_some [] = false
is_some (p ∷ ps) = true

-- some process can fire
abbrev pub goes_on : Network → Course → Bool
goes_on n c = is_some (ready_at n c)

-- the numbers of a run
abbrev pub stats_of : Network → Course → RunStats
stats_of n course = record {
  items = course.state.sent;
  fired = course.fired;
  idle = course.idle;
  bound = course.state.sent * n.firings;
}

-- the network was run on the items: it emitted these outcomes, which begin the meaning of the items, and are all of it where no
-- process can fire at the end; where some can, the picks were recorded, and all of them were made; and these are the numbers of
-- the run, of which the firings are at most those of each item sent
pub record IsRunOn (n : Network) (schedule : Schedule) (items : List (List ℤ)) (outcomes : List Outcome) (stats : RunStats) : Type 0 where
  pub emitted : outcomes ≡ (course_of n schedule items).state.emitted
  pub begins : IsPrefixOf outcomes (meaning_of n items)
  pub whole : goes_on n (course_of n schedule items) ≡ false → outcomes ≡ meaning_of n items
  pub stops : goes_on n (course_of n schedule items) ≡ true → schedule ≡ Recorded (picks_of n schedule items)
  pub stats_are : stats ≡ stats_of n (course_of n schedule items)
  pub bounded : IsWithin n.start n.firings stats.fired stats.items

-- the network of these parts, whose traps are named by the modules of the first tree
abbrev pub network_named : Tree → Tree → (ℕ → List ℤ → Outcome) → Net → ℕ → Network
network_named named tree leaf net firings =
    record { tree = tree; named = named; leaf = leaf; net = net; firings = firings; start = fresh }

-- the network of these parts, whose traps are named by its own modules
abbrev pub network : Tree → (ℕ → List ℤ → Outcome) → Net → ℕ → Network
network tree leaf net firings = network_named tree tree leaf net firings

-- a network whose runs continue from what was saved of another
abbrev pub resumed : Resumption → Network → Network
resumed r n = record n { start = saved r }
