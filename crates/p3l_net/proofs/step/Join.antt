-- Joins that may fire, and the steps of their firing.
use Rattle.std.proofs.Common.{◌≡◌, ◌≢◌, ℕ, ◌+◌, ◌<◌, ◌&&◌, true, List, [], ◌∷◌, length, Some, None, slice_get, slice_index, refl, sym, ap, ◌∙◌, subst, inl, arith}
use Rattle.std.proofs.lemmas.Bool.{and_parts}
use Rattle.p3l_base.specs.declared.outcome.Outcome.{Outcome}
use Rattle.p3l_base.specs.declared.outcome.Outcome.TheVariants.{Value, Trapped}
use Rattle.p3l_skel.specs.Tree.{node_at, part_at, HasFittingLength, HasLength, IsUnit}
use Rattle.p3l_skel.specs.Lawful.{IsLawfulReduce}
use Rattle.p3l_skel.proofs.Depth.{lawful_at}
use Rattle.p3l_firing.specs.declared.process.Proc.{Proc}
use Rattle.p3l_firing.specs.declared.process.ProcKind.TheVariants.{Join}
use Rattle.p3l_firing.specs.declared.token.Token.{Token}
use Rattle.p3l_firing.specs.Lists.{has_first, first_or}
use Rattle.p3l_firing.specs.Token.{credit}
use Rattle.p3l_firing.specs.Nodes.{Leaf, operator_of}
use Rattle.p3l_firing.specs.State.{pop, push}
use Rattle.p3l_firing.specs.Process.{Has, in_of, out_of}
use Rattle.p3l_firing.specs.Widths.{Carries}
use Rattle.p3l_firing.specs.Fire.{row_can, row_fire}
use Rattle.p3l_firing.specs.kinds.Join.{paired_by, Fits}
use Rattle.p3l_firing.specs.kinds.Join as row
use Rattle.p3l_firing.proofs.Places.{first_in, has-nth, all-nth, first_apart}
use Rattle.p3l_firing.proofs.LawfulForms.{reduce_part, fits_ins}
use Rattle.p3l_firing.proofs.row.Join.{two_long}
use Rattle.p3l_net.specs.Channel.{tokens_at}
use Rattle.p3l_net.specs.Machine.{Seen, Stands, state_of}
use Rattle.p3l_net.specs.Steps.{CanTake, CanPut, Done, IfValues, MayFire, ready_at, room_at}
use Rattle.p3l_net.proofs.StepLaw.{Step, Step.Take, Step.Put, seen_after, done_as}
use Rattle.p3l_net.proofs.Standing.{here, is_kind, fits_as, reads_there, reads_chan, writes_there, ready_as, can_take, can_put, first_fits, room-seen}

module _ {m : Seen} {p : ℕ} {q : Proc} (h : Stands m p q) (kind : q.kind ≡ Join) where
  pub fits_join : Fits m.tree h.sound.typed.widths q
  fits_join = fits_as h Join kind

  pub in_long : length q.ins ≡ 2
  in_long = two_long q.ins _ _ fits_join.ins

  pub has_in : (k : ℕ) → k < 2 → Has q.ins (slice_index q.ins k)
  has_in k less = let long = in_long in has-nth q.ins k (omega (arith, long, less))

  pub in_there : (k : ℕ) → k < 2 → in_of q k < length m.queues
  in_there k less = reads_there h (in_of q k) (has_in k less)

  pub out_there : out_of q 0 < length m.queues
  out_there = writes_there h (out_of q 0) (first_in q.outs fits_join.outs)

  pub is_ready : ready_at m p ≡ (has_first (tokens_at m.queues (in_of q 0)) && (has_first (tokens_at m.queues (in_of q 1)) && room_at m (out_of q 0)))
  unfolding row_can row.can state_of
  is_ready =
      ready_as h Join kind
      ∙ ap (λ b. has_first (tokens_at m.queues (in_of q 0)) && (has_first (tokens_at m.queues (in_of q 1)) && b)) (sym (room-seen m h.sound (out_of q 0)))

module _ {m : Seen} {p : ℕ} {q : Proc} (may : MayFire m p Join) (stands : slice_get m.net.procs p ≡ Some q) where
  h : Stands m p q
  h = here may stands

  kind : q.kind ≡ Join
  kind = is_kind may stands

  fits : Fits m.tree h.sound.typed.widths q
  fits = fits_join h kind

  all : (has_first (tokens_at m.queues (in_of q 0)) ≡ true) × ((has_first (tokens_at m.queues (in_of q 1)) && room_at m (out_of q 0)) ≡ true)
  all = and_parts _ _ (sym (is_ready h kind) ∙ may.ready)

  right_and_room : (has_first (tokens_at m.queues (in_of q 1)) ≡ true) × (room_at m (out_of q 0) ≡ true)
  right_and_room = and_parts _ _ all.1

  pub takes_left : CanTake m (in_of q 0)
  takes_left = can_take h (in_of q 0) (has_in h kind 0 (omega arith)) all.0

  pub takes_right : CanTake m (in_of q 1)
  takes_right = can_take h (in_of q 1) (has_in h kind 1 (omega arith)) right_and_room.0

  pub puts : CanPut m (out_of q 0)
  puts = can_put h (out_of q 0) (first_in q.outs fits.outs) (sym (room-seen m h.sound (out_of q 0)) ∙ right_and_room.1)

  -- the right side is another channel
  pub apart : in_of q 1 ≢ in_of q 0
  apart =
      let there = reads_chan h (in_of q 0) (has_in h kind 0 (omega arith)) in
      λ e. first_apart (λ (x : Proc). x.ins) m.net.procs (in_of q 0) p q (in_of q 1 ∷ []) stands fits.ins (h.sound.typed.channels (in_of q 0) there).read (in_of q 1) (inl refl) (sym e)

  reduce : IsLawfulReduce m.tree fits.len fits.elem (node_at m.tree q.node).ins (node_at m.tree q.node).outs (part_at m.tree q.node 0)
  reduce = reduce_part m.tree h.sound.typed.lawful q.node fits.node fits.form

  pub is_unit : IsUnit m.tree (part_at m.tree q.node 0)
  is_unit = record { in_tree = reduce.operator.in_tree; sequential = reduce.sequential }

  -- the operator takes two outcomes of the reduce
  takes_two : (n k : ℕ) → n ≡ (node_at m.tree q.node).outs → k ≡ (node_at m.tree q.node).outs → HasFittingLength m.tree (part_at m.tree q.node 0) (n + k)
  takes_two n k left right =
      let part : ℕ = part_at m.tree q.node 0 in
      let own = lawful_at m.tree h.sound.typed.lawful part reduce.operator.in_tree in
      let takes = reduce.operator.takes in
      let result = reduce.result in
      fits_ins m.tree (node_at m.tree part).form (node_at m.tree part).ins (node_at m.tree part).outs (n + k) (node_at m.tree part).parts own.ins own.form (omega (arith, left, right, takes, result))

  side : (k : ℕ) → k < 2 → has_first (tokens_at m.queues (in_of q k)) ≡ true → HasLength (node_at m.tree q.node).outs (first_or credit (tokens_at m.queues (in_of q k))).body
  side k less full =
      let long = in_long h kind in
      let carries : Carries h.sound.typed.widths (in_of q k) (node_at m.tree q.node).outs (h.sound.typed.widths.tags (out_of q 0)) = all-nth _ q.ins fits.takes k (omega (arith, long, less)) in
      subst (λ n. HasLength n (first_or credit (tokens_at m.queues (in_of q k))).body) carries.words (first_fits h (in_of q k) full).words

  -- the tokens that come have what the operator takes
  pub fitting : IfValues (first_or credit (tokens_at m.queues (in_of q 0))).body (first_or credit (tokens_at m.queues (in_of q 1))).body (λ v w. HasFittingLength m.tree (part_at m.tree q.node 0) (length v + length w))
  fitting = by_values (first_or credit (tokens_at m.queues (in_of q 0))).body (first_or credit (tokens_at m.queues (in_of q 1))).body (side 0 (omega arith) all.0) (side 1 (omega arith) right_and_room.0)
    where
      by_values : (x y : Outcome) → HasLength (node_at m.tree q.node).outs x → HasLength (node_at m.tree q.node).outs y → IfValues x y (λ v w. HasFittingLength m.tree (part_at m.tree q.node 0) (length v + length w))
      by_values (Value v) (Value w) left right = takes_two (length v) (length w) left right
      by_values (Value v) (Trapped trap) left right = tt
      by_values (Trapped trap) y left right = tt

  -- the token that it appends
  abbrev pub joined : Leaf → Token
  joined leaf = paired_by (operator_of m.tree leaf q.node) (first_or credit (tokens_at m.queues (in_of q 0))) (first_or credit (tokens_at m.queues (in_of q 1)))

  abbrev pub steps : Leaf → List Step
  steps leaf = Take (in_of q 0) ∷ (Take (in_of q 1) ∷ (Put (out_of q 0) (joined leaf) ∷ []))

  pub fired : (leaf : Leaf) (n : Seen) → n ≡ seen_after p m (steps leaf) → (touched : List ℕ) → touched ≡ in_of q 0 ∷ (in_of q 1 ∷ (out_of q 0 ∷ [])) → Done leaf m n p touched None
  unfolding row_fire row.fire pop push state_of
  fired leaf n is touched named = done_as h (steps leaf) (has_in h kind 0 (omega arith), ((λ e. apart (sym e), tt), (has_in h kind 1 (omega arith), (tt, (first_in q.outs fits.outs, (tt, tt)))))) (takes_left.there, (takes_right.there, (puts.there, tt))) leaf Join kind (λ es. refl) n is touched named
