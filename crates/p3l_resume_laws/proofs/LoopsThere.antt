-- A linked net has a loop at each place that is surveyed for one.
use Rattle.std.proofs.Common.{ℕ, List, [], ◌∷◌}
use Rattle.std.proofs.lemmas.List.Elements.{All-from_recursion}
use Rattle.std.specs.List.{AllByRecursion}
use Rattle.p3l_skel.specs.Counts.{count_of}
use Rattle.p3l_firing.specs.State.{State}
use Rattle.p3l_firing.specs.Typed.{IsTyped}
use Rattle.p3l_firing.specs.declared.net.Net.{Net}
use Rattle.p3l_net.specs.Fitting.{LoopPlace}
use Rattle.p3l_fitting.specs.Survey.{linked_loops}
use Rattle.p3l_link.specs.Laws.{net_of}
use Rattle.p3l_template.specs.Units.{Units}
use Rattle.p3l_resume_laws.specs.Loops.{EveryLoopIsThere, HasLoopAt}
use Rattle.p3l_resume_laws.proofs.Forced.{net_forced}
use Rattle.p3l_resume_laws.proofs.LinkedPlaces.{IsRootOrderly, linked_places}
use Rattle.p3l_resume_laws.proofs.LoopAt.{IsLoopAt}

are_there : (net : Net) (units : Units) (count : ℕ → ℕ) (cap : ℕ) (typed : IsTyped units.tree net) (Above : State → Type 0)
    (places : List LoopPlace) → AllByRecursion (IsLoopAt net units count cap typed Above) places → AllByRecursion (HasLoopAt net) places
are_there net units count cap typed Above [] all = tt
are_there net units count cap typed Above (place ∷ places) all =
    let at = all.0 in
    let closed = at.closed in (
      record {
        head = at.h;
        tail = at.t;
        head_is = closed.head;
        tail_is = closed.tail;
        enters = closed.enters;
        leaves = closed.leaves;
        node = closed.node;
      },
      are_there net units count cap typed Above places all.1,
    )

pub loops_there : EveryLoopIsThere
loops_there units counts cap typed l =
    All-from_recursion _ (linked_loops units.tree counts)
    (are_there (net_of units counts cap) units (count_of units.tree counts) cap typed
    (IsRootOrderly units counts cap l typed (net_forced units.tree counts cap typed l.fit)) (linked_loops units.tree counts)
    (linked_places units counts cap l typed (net_forced units.tree counts cap typed l.fit)))
