-- The rows as one table: what the condition of a process reads, that a firing keeps the words and tags of all tokens, and that it
-- leaves the items after the next one as they are.
pub mod Source
pub mod Sink
pub mod Run
pub mod Emit
pub mod Collect
pub mod Scatter
pub mod Gather
pub mod Split
pub mod FoldGather
pub mod Join
pub mod Head
pub mod Tail
use Rattle.std.proofs.Common.{◌≡◌, ◌≢◌, ℕ, ℤ, ◌<◌, true, not, ◌&&◌, List, [], ◌∷◌, length, Option, Some, None, slice_get, slice_index, refl, sym, ap, ◌∙◌, subst, inl, inr, arith}
use Rattle.std.specs.List.{AllByRecursion, find}
use Rattle.std.proofs.lemmas.Bool.{and_parts, false≢true}
use Rattle.p3l_base.specs.declared.outcome.Outcome.{Outcome}
use Rattle.p3l_skel.specs.declared.tree.Tree.{Tree}
use Rattle.p3l_skel.specs.Tree.{node_at, GivesOuts}
use Rattle.p3l_skel.specs.Lawful.{IsLawfulTree}
use Rattle.p3l_ready.specs.Flags.{in_turn}
use Rattle.p3l_ready.proofs.AtLemmas.{same_function}
use Rattle.p3l_firing.specs.declared.process.Proc.{Proc}
use Rattle.p3l_firing.specs.declared.process.ProcKind.{ProcKind}
use Rattle.p3l_firing.specs.declared.process.ProcKind.TheVariants as kinds
use Rattle.p3l_firing.specs.declared.net.Net.{Net}
use Rattle.p3l_firing.specs.Lists.{has_first}
use Rattle.p3l_firing.specs.Token.{has_trap}
use Rattle.p3l_firing.specs.Nodes.{Leaf}
use Rattle.p3l_firing.specs.State.{LocalState, State, fresh, first_state, with_rest, IsFilled}
use Rattle.p3l_firing.specs.Process.{Has, IsAt, out_of}
use Rattle.p3l_firing.specs.Widths.{Widths}
use Rattle.p3l_firing.specs.Fire.{row_can, row_fire, row_reads, ready_of, fire_of, is_ready, can_fire, fire}
use Rattle.p3l_firing.specs.RoundRobin.{next_of}
use Rattle.p3l_firing.specs.Typed.{FitsKind, FitsOwn, IsTyped, IsFitting}
use Rattle.p3l_firing.proofs.Rows.{ready_at, ready_from_can, fire_at, none_ready}
use Rattle.p3l_firing.proofs.Places.{all-has, has-nth, first_apart}
use Rattle.p3l_firing.proofs.Reading.{SameIn, same-everywhere, first_of_more}
use Rattle.p3l_firing.proofs.Fitting.{all_of_one, fitting_at_first}
use Rattle.p3l_firing.proofs.row.Source as source
use Rattle.p3l_firing.proofs.row.Sink as sink
use Rattle.p3l_firing.proofs.row.Run as run
use Rattle.p3l_firing.proofs.row.Emit as emit
use Rattle.p3l_firing.proofs.row.Collect as collect
use Rattle.p3l_firing.proofs.row.Scatter as scatter
use Rattle.p3l_firing.proofs.row.Gather as gather
use Rattle.p3l_firing.proofs.row.Split as split
use Rattle.p3l_firing.proofs.row.FoldGather as fold_gather
use Rattle.p3l_firing.proofs.row.Join as join
use Rattle.p3l_firing.proofs.row.Head as head
use Rattle.p3l_firing.proofs.row.Tail as tail

-- a process that fits reads only its own channels
pub reads-own : (tree : Tree) (widths : Widths) (o : LocalState) (q : Proc) (k : ProcKind) → FitsKind k tree widths q → AllByRecursion (IsAt (Some q)) (row_reads k o q)
unfolding row_reads
reads-own tree widths o q kinds.Source fits = source.own_reads tree widths q fits
reads-own tree widths o q kinds.Sink fits = sink.own_reads tree widths q fits
reads-own tree widths o q kinds.Run fits = run.own_reads tree widths q fits
reads-own tree widths o q kinds.Emit fits = emit.own_reads tree widths q fits
reads-own tree widths o q kinds.Collect fits = collect.own_reads tree widths q fits
reads-own tree widths o q kinds.Scatter fits = scatter.own_reads tree widths o q fits
reads-own tree widths o q kinds.Gather fits = gather.own_reads tree widths o q fits
reads-own tree widths o q kinds.Split fits = split.own_reads tree widths q fits
reads-own tree widths o q kinds.FoldGather fits = fold_gather.own_reads tree widths q fits
reads-own tree widths o q kinds.Join fits = join.own_reads tree widths q fits
reads-own tree widths o q kinds.Head fits = head.own_reads tree widths q fits
reads-own tree widths o q kinds.Tail fits = tail.own_reads tree widths q fits

-- states that are alike where a row reads allow the same
pub row-alike : (net : Net) (s t : State) (tree : Tree) (o : LocalState) (q : Proc) (k : ProcKind) → SameIn s t (row_reads k o q) → (k ≡ kinds.Source → has_first s.unsent ≡ has_first t.unsent) → row_can k tree net s o q ≡ row_can k tree net t o q
unfolding row_can row_reads
row-alike net s t tree o q kinds.Source same item = source.alike net s t q same (item refl)
row-alike net s t tree o q kinds.Sink same item = sink.alike s t q same
row-alike net s t tree o q kinds.Run same item = run.alike net s t q same
row-alike net s t tree o q kinds.Emit same item = emit.alike net s t q same
row-alike net s t tree o q kinds.Collect same item = collect.alike net s t o q same
row-alike net s t tree o q kinds.Scatter same item = scatter.alike net s t o q same
row-alike net s t tree o q kinds.Gather same item = gather.alike tree net s t o q same
row-alike net s t tree o q kinds.Split same item = split.alike net s t o q same
row-alike net s t tree o q kinds.FoldGather same item = fold_gather.alike net s t o q same
row-alike net s t tree o q kinds.Join same item = join.alike net s t q same
row-alike net s t tree o q kinds.Head same item = head.alike net s t q same
row-alike net s t tree o q kinds.Tail same item = tail.alike net s t o q same

module _ (tree : Tree) (leaf : Leaf) (net : Net) (s : State) (rest : List (List ℤ)) where
  row_fire-rest : (p : ℕ) (o : LocalState) (q : Proc) (k : ProcKind) → row_can k tree net s o q ≡ true → row_fire k tree leaf net (with_rest s rest) p o q ≡ with_rest (row_fire k tree leaf net s p o q) rest
  unfolding row_can row_fire
  row_fire-rest p o q kinds.Source can = source.rest_stays net s rest q can
  row_fire-rest p o q kinds.Sink can = sink.rest_stays s rest q
  row_fire-rest p o q kinds.Run can = run.rest_stays tree leaf s rest q
  row_fire-rest p o q kinds.Emit can = emit.rest_stays net s rest p o q
  row_fire-rest p o q kinds.Collect can = collect.rest_stays s rest p o q
  row_fire-rest p o q kinds.Scatter can = scatter.rest_stays tree s rest p o q
  row_fire-rest p o q kinds.Gather can = gather.rest_stays tree s rest p o q
  row_fire-rest p o q kinds.Split can = split.rest_stays tree s rest p o q
  row_fire-rest p o q kinds.FoldGather can = fold_gather.rest_stays tree leaf s rest p o q
  row_fire-rest p o q kinds.Join can = join.rest_stays tree leaf s rest q
  row_fire-rest p o q kinds.Head can = head.rest_stays s rest p o q
  row_fire-rest p o q kinds.Tail can = tail.rest_stays tree leaf net s rest p o q

  fire_of-rest : (p : ℕ) (o : LocalState) (q : Option Proc) → ready_of q tree net s o ≡ true → fire_of q tree leaf net (with_rest s rest) p o ≡ with_rest (fire_of q tree leaf net s p o) rest
  unfolding ready_of fire_of
  fire_of-rest p o None can = refl
  fire_of-rest p o (Some q) can = row_fire-rest p o q q.kind can

  own-rest : (p : ℕ) → (with_rest s rest).own p ≡ s.own p
  unfolding with_rest
  own-rest p = refl

  -- a firing leaves the rest of the items as it is
  pub fire-rest : (p : ℕ) → can_fire tree net s p ≡ true → fire tree leaf net (with_rest s rest) p ≡ with_rest (fire tree leaf net s p) rest
  unfolding can_fire is_ready fire
  fire-rest p can =
      ap (λ o. fire_of (slice_get net.procs p) tree leaf net (with_rest s rest) p o) (own-rest p)
      ∙ fire_of-rest p (s.own p) (slice_get net.procs p) (and_parts _ _ can).1

module _ (tree : Tree) (net : Net) (s : State) (rest : List (List ℤ)) (filled : IsFilled s rest) where
  same_tokens : (cs : List ℕ) → SameIn (with_rest s rest) s cs
  unfolding with_rest
  same_tokens cs = same-everywhere (with_rest s rest) s (λ c. refl) cs

  same_item : has_first (with_rest s rest).unsent ≡ has_first s.unsent
  unfolding with_rest
  same_item = first_of_more s.unsent rest filled

  ready_of-rest : (o : LocalState) (q : Option Proc) → ready_of q tree net (with_rest s rest) o ≡ ready_of q tree net s o
  unfolding ready_of
  ready_of-rest o None = refl
  ready_of-rest o (Some q) = row-alike net (with_rest s rest) s tree o q q.kind (same_tokens _) (λ e. same_item)

  -- the same processes can fire
  pub can_fire-rest : (p : ℕ) → can_fire tree net (with_rest s rest) p ≡ can_fire tree net s p
  unfolding can_fire is_ready with_rest
  can_fire-rest p = ap (λ b. not (has_trap s.emitted) && b) (ready_of-rest (s.own p) (slice_get net.procs p))

  -- and the round robin picks the same
  pub next_of-rest : (from : ℕ) → next_of tree net (with_rest s rest) from ≡ next_of tree net s from
  next_of-rest from = ap (λ test. find test (in_turn (length net.procs) from)) (same_function can_fire-rest)

-- of the outcomes emitted a row reads nothing
pub ready-emitted : (tree : Tree) (net : Net) (s : State) (es : List Outcome) (p : ℕ) → is_ready tree net (record s { emitted = es }) p ≡ is_ready tree net s p
unfolding is_ready ready_of
ready-emitted tree net s es p = of (slice_get net.procs p)
  where
    of : (x : Option Proc) → ready_of x tree net (record s { emitted = es }) (s.own p) ≡ ready_of x tree net s (s.own p)
    of None = refl
    of (Some q) = row-alike net (record s { emitted = es }) s tree (s.own p) q q.kind (same-everywhere (record s { emitted = es }) s (λ c. refl) _) (λ e. refl)

module _ (tree : Tree) (leaf : Leaf) (gives : GivesOuts tree leaf) (net : Net) (typed : IsTyped tree net) where
  abbrev lawful : IsLawfulTree tree
  lawful = typed.lawful

  -- the channel of credits of a tail is another than that which leads outside
  pub tail_apart : (p : ℕ) (q : Proc) → slice_get net.procs p ≡ Some q → FitsKind kinds.Tail tree typed.widths q → out_of q 2 ≢ out_of q 0
  tail_apart p q stands fits =
      let there : out_of q 0 < length net.chans = all-has (λ c. c < length net.chans) q.outs (all_of_one (λ c. c < length net.chans) (λ (x : Proc). x.outs) net.procs p q stands typed.writes) (out_of q 0) (has_first_out q.outs (ap length fits.outs)) in
      λ e. first_apart (λ (x : Proc). x.outs) net.procs (out_of q 0) p q (out_of q 1 ∷ (out_of q 2 ∷ [])) stands fits.outs (typed.channels (out_of q 0) there).written (out_of q 2) (inr (inl refl)) (sym e)
    where
      has_first_out : (cs : List ℕ) → length cs ≡ 3 → Has cs (slice_index cs 0)
      has_first_out cs long = has-nth cs 0 (omega (arith, long))

  module _ (s : State) (fit : IsFitting tree net typed.widths s) where
    pub fits_row : (p : ℕ) (o : LocalState) (q : Proc) (k : ProcKind) → slice_get net.procs p ≡ Some q → q.kind ≡ k → FitsKind k tree typed.widths q → FitsOwn k tree typed.widths q o → row_can k tree net s o q ≡ true → IsFitting tree net typed.widths (row_fire k tree leaf net s p o q)
    unfolding row_can row_fire
    fits_row p o q kinds.Source stands kind fits keeps can = source.fits s q fit fits can
    fits_row p o q kinds.Sink stands kind fits keeps can = sink.fits s q fit
    fits_row p o q kinds.Run stands kind fits keeps can = run.fits tree leaf lawful gives typed.widths q fits net s fit can
    fits_row p o q kinds.Emit stands kind fits keeps can = emit.fits s p o q fit stands kind fits can keeps
    fits_row p o q kinds.Collect stands kind fits keeps can = collect.fits s p o q fit stands kind fits can keeps
    fits_row p o q kinds.Scatter stands kind fits keeps can = scatter.fits lawful s p o q fit stands kind fits can keeps
    fits_row p o q kinds.Gather stands kind fits keeps can = gather.fits lawful s p o q fit stands kind fits can keeps
    fits_row p o q kinds.Split stands kind fits keeps can = split.fits lawful s p o q fit stands kind fits can keeps
    fits_row p o q kinds.FoldGather stands kind fits keeps can = fold_gather.fits leaf lawful gives s p o q fit stands kind fits can keeps
    fits_row p o q kinds.Join stands kind fits keeps can = join.fits tree leaf lawful gives typed.widths q fits net s fit can
    fits_row p o q kinds.Head stands kind fits keeps can = head.fits s p o q fit stands kind fits can keeps
    fits_row p o q kinds.Tail stands kind fits keeps can = tail.fits leaf s p o q fit stands kind fits (tail_apart p q stands fits) can keeps

    fits_at : (p : ℕ) (x : Option Proc) → slice_get net.procs p ≡ x → can_fire tree net s p ≡ true → IsFitting tree net typed.widths (fire tree leaf net s p)
    fits_at p None e can = absurd (false≢true (sym (none_ready tree net s p e) ∙ ready_from_can tree net s p can))
    fits_at p (Some q) e can =
        subst (IsFitting tree net typed.widths) (sym (fire_at tree net s p q e leaf))
        (fits_row p (s.own p) q q.kind e refl (typed.processes p q e) (fit.owns p q e) (sym (ready_at tree net s p q e) ∙ ready_from_can tree net s p can))

    -- a firing keeps that a state fits its net
    pub fitting_fired : (p : ℕ) → can_fire tree net s p ≡ true → IsFitting tree net typed.widths (fire tree leaf net s p)
    fitting_fired p can = fits_at p (slice_get net.procs p) refl can

-- a process that has not fired yet keeps what fits it
pub fresh_fits : (tree : Tree) (widths : Widths) (q : Proc) (k : ProcKind) → FitsOwn k tree widths q fresh
fresh_fits tree widths q kinds.Source = refl
fresh_fits tree widths q kinds.Sink = refl
fresh_fits tree widths q kinds.Run = refl
fresh_fits tree widths q kinds.Emit = refl
fresh_fits tree widths q kinds.Collect = refl
fresh_fits tree widths q kinds.Scatter = record { held = tt; number = λ full. cc }
fresh_fits tree widths q kinds.Gather = record { held = tt; few = omega arith }
fresh_fits tree widths q kinds.Split = record { held = tt; number = λ full. cc }
fresh_fits tree widths q kinds.FoldGather = record { held = tt; few = omega arith }
fresh_fits tree widths q kinds.Join = refl
fresh_fits tree widths q kinds.Head = refl
fresh_fits tree widths q kinds.Tail = tt

-- before anything has fired a state fits its net
pub fitting_first : (tree : Tree) (net : Net) (typed : IsTyped tree net) (items : List (List ℤ)) → AllByRecursion (λ words. length words ≡ (node_at tree 0).ins) items → IsFitting tree net typed.widths (first_state net items)
unfolding first_state
fitting_first tree net typed items long = record {
  rooms = λ c. (fitting_at_first tree net typed c).1;
  tokens = λ c. (fitting_at_first tree net typed c).0;
  owns = λ p q stands. fresh_fits tree typed.widths q q.kind;
  unsent = long;
}
