-- The row of a sink.
use Rattle.std.proofs.Common.{◌≡◌, ℤ, List, Some, refl, ap, inl}
use Rattle.std.specs.List.{AllByRecursion}
use Rattle.p3l_skel.specs.declared.tree.Tree.{Tree}
use Rattle.p3l_firing.specs.declared.process.Proc.{Proc}
use Rattle.p3l_firing.specs.declared.net.Net.{Net}
use Rattle.p3l_firing.specs.Lists.{has_first}
use Rattle.p3l_firing.specs.State.{State, pop, with_rest}
use Rattle.p3l_firing.specs.Process.{IsAt, in_of}
use Rattle.p3l_firing.specs.Widths.{Widths}
use Rattle.p3l_firing.specs.Typed.{IsFitting}
use Rattle.p3l_firing.specs.kinds.Sink.{can, fire, reads, Fits}
use Rattle.p3l_firing.proofs.Places.{first_in}
use Rattle.p3l_firing.proofs.Reading.{SameIn}
use Rattle.p3l_firing.proofs.Fitting.{fitting-pop}

pub own_reads : (tree : Tree) (widths : Widths) (q : Proc) → Fits tree widths q → AllByRecursion (IsAt (Some q)) (reads q)
own_reads tree widths q fits = (inl (first_in q.ins fits.ins), tt)

pub alike : (s t : State) (q : Proc) → SameIn s t (reads q) → can s q ≡ can t q
unfolding can
alike s t q same = ap has_first same.0

pub rest_stays : (s : State) (rest : List (List ℤ)) (q : Proc) → fire (with_rest s rest) q ≡ with_rest (fire s q) rest
unfolding fire with_rest pop
rest_stays s rest q = refl

pub fits : {tree : Tree} {net : Net} {widths : Widths} (s : State) (q : Proc) → IsFitting tree net widths s → IsFitting tree net widths (fire s q)
unfolding fire
fits s q fit =
    let popped = fitting-pop s fit (in_of q 0) in
    record { rooms = popped.rooms; tokens = popped.tokens; owns = popped.owns; unsent = popped.unsent }
