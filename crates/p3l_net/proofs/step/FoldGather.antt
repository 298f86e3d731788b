-- Fold-gathers that may fire, and the steps of their firing.
use Rattle.std.proofs.Common.{◌≡◌, ℕ, ℤ, ◌+◌, ◌*◌, ◌<◌, true, false, cond, List, [], ◌∷◌, length, Some, None, slice_get, sym, ap, ◌∙◌, subst, arith, leb-true, leb-false}
use Rattle.std.specs.List.{AllByRecursion}
use Rattle.std.proofs.lemmas.Bool.{cond-true, cond-false}
use Rattle.p3l_base.specs.declared.outcome.Outcome.{Outcome}
use Rattle.p3l_skel.specs.Item.{item}
use Rattle.p3l_skel.specs.Lawful.{IsLawfulReduce}
use Rattle.p3l_skel.specs.Tree.{node_at, part_at, HasLength, GivesOuts}
use Rattle.p3l_skel.proofs.Depth.{lawful_at}
use Rattle.p3l_firing.specs.declared.process.Proc.{Proc}
use Rattle.p3l_firing.specs.declared.process.ProcKind.TheVariants.{FoldGather}
use Rattle.p3l_firing.specs.declared.token.Token.{Token}
use Rattle.p3l_firing.specs.Lists.{has_first, first_or}
use Rattle.p3l_firing.specs.Token.{credit, bodies}
use Rattle.p3l_firing.specs.Nodes.{Leaf, fold_of}
use Rattle.p3l_firing.specs.State.{own_at, gathering, released, pop, push, set_own}
use Rattle.p3l_firing.specs.Process.{Has, out_of}
use Rattle.p3l_firing.specs.Widths.{HasWidth}
use Rattle.p3l_firing.specs.Fire.{row_can, row_fire}
use Rattle.p3l_firing.specs.kinds.FoldGather.{line_of, is_full, fold_sent, Fits}
use Rattle.p3l_firing.specs.kinds.FoldGather as row
use Rattle.p3l_firing.proofs.LawfulForms.{reduce_part, fits_ins, operates}
use Rattle.p3l_firing.proofs.Places.{first_in, has-nth}
use Rattle.p3l_net.specs.Channel.{tokens_at}
use Rattle.p3l_net.specs.Machine.{Seen, Stands, state_of}
use Rattle.p3l_net.specs.Operators.{IsOperator, outs_of}
use Rattle.p3l_net.specs.Steps.{CanTake, CanPut, Done, MayFire, ready_at, room_at}
use Rattle.p3l_net.proofs.StepLaw.{Step, Step.Take, Step.Put, Step.Keep, seen_after, state_after, done_as}
use Rattle.p3l_net.proofs.Standing.{here, is_kind, fits_as, keeps_as, reads_there, writes_there, own_there, own_less, ready_as, can_take, can_put, room-seen}

-- the tokens held are of these widths
all_bodies : (w t n : ℕ) → w ≡ n → (tokens : List Token) → AllByRecursion (HasWidth w t) tokens → AllByRecursion (λ (token : Token). HasLength n token.body) tokens
all_bodies w t n same [] all = tt
all_bodies w t n same (token ∷ tokens) all = (subst (λ k. HasLength k token.body) same all.0.words, all_bodies w t n same tokens all.1)

module _ {m : Seen} {p : ℕ} {q : Proc} (h : Stands m p q) (kind : q.kind ≡ FoldGather) where
  pub fits_fold_gather : Fits m.tree h.sound.typed.widths q
  fits_fold_gather = fits_as h FoldGather kind

  pub out_there : out_of q 0 < length m.queues
  out_there = writes_there h (out_of q 0) (first_in q.outs fits_fold_gather.outs)

  pub is_ready : ready_at m p ≡ cond (is_full (own_at m.owns p) q) (room_at m (out_of q 0)) (has_first (tokens_at m.queues (line_of (own_at m.owns p) q)))
  unfolding row_can row.can state_of
  is_ready =
      ready_as h FoldGather kind
      ∙ ap (λ b. cond (is_full (own_at m.owns p) q) b (has_first (tokens_at m.queues (line_of (own_at m.owns p) q)))) (sym (room-seen m h.sound (out_of q 0)))

  reduce : IsLawfulReduce m.tree fits_fold_gather.len fits_fold_gather.elem (node_at m.tree q.node).ins (node_at m.tree q.node).outs (part_at m.tree q.node 0)
  reduce = reduce_part m.tree h.sound.typed.lawful q.node fits_fold_gather.node fits_fold_gather.form

  same_outs : (node_at m.tree q.node).outs ≡ outs_of m.tree (part_at m.tree q.node 0)
  same_outs = reduce.result ∙ sym reduce.operator.gives

  -- its operator
  pub is_operator : (leaf : Leaf) → GivesOuts m.tree leaf → IsOperator m.tree leaf (part_at m.tree q.node 0)
  is_operator leaf gives =
      let part : ℕ = part_at m.tree q.node 0 in
      let own = lawful_at m.tree h.sound.typed.lawful part reduce.operator.in_tree in
      let takes = reduce.operator.takes in
      let outs = reduce.operator.gives in
      record {
        unit = record { in_tree = reduce.operator.in_tree; sequential = reduce.sequential };
        takes = fits_ins m.tree (node_at m.tree part).form (node_at m.tree part).ins (node_at m.tree part).outs (outs_of m.tree part + outs_of m.tree part) (node_at m.tree part).parts own.ins own.form (omega (arith, takes, outs));
        gives = subst (λ n. (words : List ℤ) → length words ≡ 2 * n → HasLength n (item m.tree leaf part words)) same_outs
            (operates m.tree leaf h.sound.typed.lawful gives q.node fits_fold_gather.node fits_fold_gather.form);
      }

  -- it holds outcomes of its segments
  pub held_sized : AllByRecursion (λ (token : Token). HasLength (outs_of m.tree (part_at m.tree q.node 0)) token.body) (own_at m.owns p).held
  held_sized =
      all_bodies (node_at m.tree q.node).outs (h.sound.typed.widths.tags (out_of q 0)) (outs_of m.tree (part_at m.tree q.node 0)) same_outs
      (own_at m.owns p).held (keeps_as h FoldGather kind).held

  pub held_some : is_full (own_at m.owns p) q ≡ true → 0 < length (own_at m.owns p).held
  unfolding is_full
  held_some full =
      let all = leb-true _ _ full in
      let several = fits_fold_gather.several in
      omega (arith, all, several)

  -- it reads the next line if it is not full
  module _ (none : is_full (own_at m.owns p) q ≡ false) where
    pub held_few : length (own_at m.owns p).held < length q.ins
    unfolding is_full
    held_few = leb-false _ _ none

    pub line_among : Has q.ins (line_of (own_at m.owns p) q)
    line_among = has-nth q.ins (length (own_at m.owns p).held) held_few

    pub line_there : line_of (own_at m.owns p) q < length m.queues
    line_there = reads_there h (line_of (own_at m.owns p) q) line_among

module _ {m : Seen} {p : ℕ} {q : Proc} (may : MayFire m p FoldGather) (stands : slice_get m.net.procs p ≡ Some q) where
  h : Stands m p q
  h = here may stands

  kind : q.kind ≡ FoldGather
  kind = is_kind may stands

  module _ (full : is_full (own_at m.owns p) q ≡ true) where
    pub puts : CanPut m (out_of q 0)
    puts =
        can_put h (out_of q 0) (first_in q.outs (fits_fold_gather h kind).outs)
        (sym (room-seen m h.sound (out_of q 0)) ∙ sym (cond-true _ _ _ full) ∙ sym (is_ready h kind) ∙ may.ready)

    -- the fold that is sent
    abbrev pub sent : Leaf → Token
    sent leaf = record { tags = (first_or credit (own_at m.owns p).held).tags; body = fold_of m.tree leaf q.node (bodies (own_at m.owns p).held) }

    abbrev pub sent_steps : Leaf → List Step
    sent_steps leaf = Put (out_of q 0) (sent leaf) ∷ (Keep (released (own_at m.owns p)) ∷ [])

    row_sent : (leaf : Leaf) (es : List Outcome) → row_fire FoldGather m.tree leaf m.net (state_of m es) p (own_at m.owns p) q ≡ state_after p (state_of m es) (sent_steps leaf)
    unfolding row_fire row.fire fold_sent push set_own state_of
    row_sent leaf es = cond-true (is_full (own_at m.owns p) q) _ _ full

    pub fired_sent : (leaf : Leaf) (n : Seen) → n ≡ seen_after p m (sent_steps leaf) → (touched : List ℕ) → touched ≡ out_of q 0 ∷ [] → Done leaf m n p touched None
    fired_sent leaf n is touched named =
        let few = own_less h in
        done_as h (sent_steps leaf) (first_in q.outs (fits_fold_gather h kind).outs, (tt, tt)) (puts.there, ((own_there h, omega (arith, few)), tt)) leaf FoldGather kind (λ es. sym (row_sent leaf es)) n is touched named

  module _ (none : is_full (own_at m.owns p) q ≡ false) where
    pub takes : CanTake m (line_of (own_at m.owns p) q)
    takes =
        can_take h (line_of (own_at m.owns p) q) (line_among h kind none)
        (sym (cond-false _ _ _ none) ∙ sym (is_ready h kind) ∙ may.ready)

    abbrev pub taken_steps : List Step
    taken_steps =
        Take (line_of (own_at m.owns p) q) ∷ (Keep (gathering (own_at m.owns p) (first_or credit (tokens_at m.queues (line_of (own_at m.owns p) q)))) ∷ [])

    row_taken : (leaf : Leaf) (es : List Outcome) → row_fire FoldGather m.tree leaf m.net (state_of m es) p (own_at m.owns p) q ≡ state_after p (state_of m es) taken_steps
    unfolding row_fire row.fire pop set_own state_of
    row_taken leaf es = cond-false (is_full (own_at m.owns p) q) _ _ none

    pub fired_taken : (leaf : Leaf) (n : Seen) → n ≡ seen_after p m taken_steps → (touched : List ℕ) → touched ≡ line_of (own_at m.owns p) q ∷ [] → Done leaf m n p touched None
    fired_taken leaf n is touched named =
        let few = own_less h in
        done_as h taken_steps (line_among h kind none, (tt, tt)) (takes.there, ((own_there h, omega (arith, few)), tt)) leaf FoldGather kind (λ es. sym (row_taken leaf es)) n is touched named
