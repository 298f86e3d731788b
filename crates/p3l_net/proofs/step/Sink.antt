-- Sinks that may fire, and their firing.
use Rattle.std.proofs.Common.{◌≡◌, ℕ, ◌+◌, ◌^◌, ◌<◌, false, List, [], ◌∷◌, ◌++◌, length, Some, slice_get, refl, sym, ap, ◌∙◌, subst, inr, arith, length-append, inl}
use Rattle.std.specs.Option.{option_to_list}
use Rattle.std.specs.List.{AllByRecursion}
use Rattle.p3l_base.specs.declared.outcome.Outcome.TheVariants.{Value, Trapped}
use Rattle.p3l_base.specs.declared.outcome.Outcome.{Outcome}
use Rattle.p3l_firing.specs.declared.process.Proc.{Proc}
use Rattle.p3l_firing.specs.declared.process.ProcKind.TheVariants.{Sink}
use Rattle.p3l_firing.specs.declared.token.Token.{Token}
use Rattle.p3l_firing.specs.Lists.{has_first, first_or}
use Rattle.p3l_firing.specs.Nodes.{Leaf}
use Rattle.p3l_firing.specs.Token.{credit, is_trap, has_trap}
use Rattle.p3l_firing.specs.State.{State, own_at, pop}
use Rattle.p3l_firing.specs.Process.{IsAt, in_of}
use Rattle.p3l_firing.specs.Fire.{row_can, row_fire}
use Rattle.p3l_firing.specs.kinds.Sink.{Fits}
use Rattle.p3l_firing.specs.kinds.Sink as row
use Rattle.p3l_firing.proofs.Rows.{fire_at}
use Rattle.p3l_firing.proofs.Places.{first_in}
use Rattle.p3l_net.specs.Machine.{Seen, Stands, state_of}
use Rattle.p3l_net.specs.Channel.{tokens_at}
use Rattle.p3l_net.specs.Steps.{CanTake, Done, MayFire, ready_at, one_emitted, ticked, without_first}
use Rattle.p3l_net.proofs.Queues.{tokens-taken, tokens-other-take, rooms-taken}
use Rattle.p3l_net.proofs.StepLaw.{take-grows, take-shrinks}
use Rattle.p3l_net.proofs.Standing.{here, is_kind, fits_as, reads_there, reads_chan, ready_as, can_take}

module _ {m : Seen} {p : ℕ} {q : Proc} (h : Stands m p q) (kind : q.kind ≡ Sink) where
  pub fits_sink : Fits m.tree h.sound.typed.widths q
  fits_sink = fits_as h Sink kind

  pub in_there : in_of q 0 < length m.queues
  in_there = reads_there h (in_of q 0) (first_in q.ins fits_sink.ins)

  pub is_ready : ready_at m p ≡ has_first (tokens_at m.queues (in_of q 0))
  unfolding row_can row.can state_of
  is_ready = ready_as h Sink kind

-- one outcome more decides on a trap where there was none
trap_more : (es : List Outcome) (o : Outcome) → false ≡ has_trap es → is_trap o ≡ has_trap (es ++ o ∷ [])
unfolding has_trap
trap_more [] (Value words) h = refl
trap_more [] (Trapped trap) h = refl
trap_more (Value words ∷ es) o h = trap_more es o h
trap_more (Trapped trap ∷ es) o h = cc

module _ {m : Seen} {p : ℕ} {q : Proc} (may : MayFire m p Sink) (stands : slice_get m.net.procs p ≡ Some q) where
  h : Stands m p q
  h = here may stands

  kind : q.kind ≡ Sink
  kind = is_kind may stands

  pub takes : CanTake m (in_of q 0)
  takes = can_take h (in_of q 0) (first_in q.ins (fits_sink h kind).ins) (sym (is_ready h kind) ∙ may.ready)

  pub few : m.emitted + 1 < 2 ^ 64
  few = let emitted = may.sound.shaped.emitted in let count = may.count in omega (arith, emitted, count)

  module _ (untrapped : m.trapped ≡ false) (leaf : Leaf) where
    abbrev pub out : Outcome
    out = (first_or credit (tokens_at m.queues (in_of q 0))).body

    abbrev new : Seen
    new = ticked (one_emitted (without_first m (in_of q 0)) out)

    new_state : (es : List Outcome) → state_of new (es ++ out ∷ []) ≡ row.fire (state_of m es) q
    unfolding state_of row.fire pop
    new_state es =
        let taking : (ℕ → List Token) → State = λ t. record { tokens = t; own = own_at m.owns; unsent = option_to_list m.inbox; sent = m.sent; emitted = es ++ out ∷ [] } in
        ap taking (tokens-taken m.queues (in_of q 0) takes.there)

    emits : Done leaf m new p (in_of q 0 ∷ []) (Some out)
    unfolding state_of row_fire
    emits =
        let shaped = may.sound.shaped in
        let few_sent = shaped.sent in
        let few_emitted = shaped.emitted in
        record {
          fires = record {
            tree = refl;
            net = refl;
            fired = refl;
            state = λ es.
                new_state es
                ∙ ap (λ x. row_fire x m.tree leaf m.net (state_of m es) p (own_at m.owns p) q) (sym kind)
                ∙ sym (fire_at m.tree m.net (state_of m es) p q stands leaf);
            emitted = λ es has. let count = has.count in record { count = omega (arith, count, length-append es (out ∷ [])); trap = trap_more es out (sym untrapped ∙ has.trap) };
          };
          moves = record {
            typed = may.sound.typed;
            tree = refl;
            net = refl;
            inside = (reads_chan h (in_of q 0) (first_in q.ins (fits_sink h kind).ins), tt);
            own_channels = subst (λ o. AllByRecursion (IsAt o) (in_of q 0 ∷ [])) (sym stands) (inl (first_in q.ins (fits_sink h kind).ins), tt);
            queues = λ c apart. tokens-other-take m.queues (in_of q 0) c apart.0;
            grows = λ c none. take-grows q m.queues (in_of q 0) takes.there (first_in q.ins (fits_sink h kind).ins) c (none q stands);
            shrinks = λ c none. take-shrinks q m.queues (in_of q 0) takes.there (first_in q.ins (fits_sink h kind).ins) c (none q stands);
            owns = λ r other. refl;
            inbox = inr refl;
          };
          shaped = record {
            rooms = rooms-taken m.queues (in_of q 0) ∙ shaped.rooms;
            keeps = shaped.keeps;
            numbers = λ r. let few_counted = shaped.numbers r in omega (arith, few_counted);
            sent = omega (arith, few_sent);
            emitted = omega (arith, few_emitted);
          };
        }

    pub fired : (o : Outcome) → o ≡ out → (n : Seen) → n ≡ ticked (one_emitted (without_first m (in_of q 0)) o) → (touched : List ℕ) → touched ≡ in_of q 0 ∷ [] → Done leaf m n p touched (Some o)
    fired o same n e touched named =
        subst (λ cs. Done leaf m n p cs (Some o)) (sym named)
        (subst (λ x. Done leaf m x p (in_of q 0 ∷ []) (Some o)) (sym e)
        (subst (λ x. Done leaf m (ticked (one_emitted (without_first m (in_of q 0)) x)) p (in_of q 0 ∷ []) (Some x)) (sym same) emits))
