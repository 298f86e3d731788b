-- The row of a source.
use Rattle.std.proofs.Common.{◌≡◌, ◌+◌, ℕ, ℤ, ◌&&◌, true, List, [], ◌∷◌, ◌++◌, length, Some, sym, ap₂, ◌∙◌, inr}
use Rattle.std.specs.List.{AllByRecursion}
use Rattle.std.proofs.lemmas.Bool.{and_parts}
use Rattle.p3l_base.specs.declared.outcome.Outcome.TheVariants.{Value}
use Rattle.p3l_skel.specs.declared.tree.Tree.{Tree}
use Rattle.p3l_skel.specs.Tree.{node_at}
use Rattle.p3l_ready.specs.At.{at}
use Rattle.p3l_firing.specs.declared.process.Proc.{Proc}
use Rattle.p3l_firing.specs.declared.net.Net.{Net}
use Rattle.p3l_firing.specs.Lists.{has_first, first_or}
use Rattle.p3l_firing.specs.Token.{plain}
use Rattle.p3l_firing.specs.State.{State, push, with_rest}
use Rattle.p3l_firing.specs.Process.{IsAt, out_of}
use Rattle.p3l_firing.specs.Widths.{Widths}
use Rattle.p3l_firing.specs.Typed.{IsFitting}
use Rattle.p3l_firing.specs.kinds.Source.{can, fire, reads, Fits}
use Rattle.p3l_firing.proofs.Places.{first_in}
use Rattle.p3l_firing.proofs.Reading.{SameIn, room-same, first_with_more, rest_with_more}
use Rattle.p3l_firing.proofs.Fitting.{fitting-push, all_first, all_rest}

pub own_reads : (tree : Tree) (widths : Widths) (q : Proc) → Fits tree widths q → AllByRecursion (IsAt (Some q)) (reads q)
own_reads tree widths q fits = (inr (first_in q.outs fits.outs), tt)

pub alike : (net : Net) (s t : State) (q : Proc) → SameIn s t (reads q) → has_first s.unsent ≡ has_first t.unsent → can net s q ≡ can net t q
unfolding can
alike net s t q same item = ap₂ (λ a b. a && b) item (room-same net s t _ same.0)

pub rest_stays : (net : Net) (s : State) (rest : List (List ℤ)) (q : Proc) → can net s q ≡ true → fire (with_rest s rest) q ≡ with_rest (fire s q) rest
unfolding can fire with_rest push
rest_stays net s rest q h =
    let c : ℕ = out_of q 0 in
    let sends : List ℤ → List (List ℤ) → State = λ x u.
    record { tokens = at s.tokens c (s.tokens c ++ plain (Value x) ∷ []); own = s.own; unsent = u; sent = s.sent + 1; emitted = s.emitted } in
    let full = (and_parts _ _ h).0 in
    ap₂ sends (first_with_more [] s.unsent rest full) (rest_with_more s.unsent rest full)

pub fits : {tree : Tree} {net : Net} {widths : Widths} (s : State) (q : Proc) → IsFitting tree net widths s → Fits tree widths q → can net s q ≡ true → IsFitting tree net widths (fire s q)
unfolding can fire
fits {tree = tree} s q fit fits_q h =
    let both = and_parts _ _ h in
    let item : length (first_or [] s.unsent) ≡ (node_at tree 0).ins = all_first (λ (words : List ℤ). length words ≡ (node_at tree 0).ins) [] s.unsent both.0 fit.unsent in
    let sent = fitting-push s fit (out_of q 0) (plain (Value (first_or [] s.unsent))) both.1 (record { words = item ∙ sym fits_q.gives.words; tags = sym fits_q.gives.tags }) in
    record { rooms = sent.rooms; tokens = sent.tokens; owns = sent.owns; unsent = all_rest _ s.unsent fit.unsent }
