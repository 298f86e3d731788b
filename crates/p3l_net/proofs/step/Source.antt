-- Sources that may fire, and their firing.
use Rattle.std.proofs.Common.{◌≡◌, ℕ, ℤ, ◌+◌, ◌^◌, ◌<◌, ◌&&◌, true, List, [], ◌∷◌, ◌++◌, length, Option, Some, None, slice_get, refl, sym, ap, ap₂, ◌∙◌, subst, inl, arith, inr}
use Rattle.std.specs.Option.{is_some, option_to_list}
use Rattle.std.specs.List.{AllByRecursion}
use Rattle.std.proofs.lemmas.Bool.{and_parts}
use Rattle.std.proofs.lemmas.List.{append-nil}
use Rattle.p3l_base.specs.declared.outcome.Outcome.TheVariants.{Value}
use Rattle.p3l_base.specs.declared.outcome.Outcome.{Outcome}
use Rattle.p3l_firing.specs.declared.process.Proc.{Proc}
use Rattle.p3l_firing.specs.declared.process.ProcKind.TheVariants.{Source}
use Rattle.p3l_firing.specs.declared.token.Token.{Token}
use Rattle.p3l_firing.specs.Lists.{has_first, first_or, rest_of}
use Rattle.p3l_firing.specs.Nodes.{Leaf}
use Rattle.p3l_firing.specs.Token.{plain, has_trap}
use Rattle.p3l_ready.specs.At.{at}
use Rattle.p3l_firing.specs.State.{State, own_at, push}
use Rattle.p3l_firing.specs.Process.{IsAt, out_of}
use Rattle.p3l_firing.specs.Fire.{row_can, row_fire}
use Rattle.p3l_firing.specs.kinds.Source.{Fits}
use Rattle.p3l_firing.specs.kinds.Source as row
use Rattle.p3l_firing.proofs.Rows.{fire_at}
use Rattle.p3l_firing.proofs.Places.{first_in}
use Rattle.p3l_net.specs.Machine.{Seen, Stands, state_of}
use Rattle.p3l_net.specs.Channel.{tokens_at}
use Rattle.p3l_net.specs.Steps.{CanPut, Done, MayFire, ready_at, room_at, item_sent, ticked, with_last}
use Rattle.p3l_net.proofs.Queues.{tokens-appended, tokens-other-put, rooms-appended}
use Rattle.p3l_net.proofs.StepLaw.{put-grows, put-shrinks}
use Rattle.p3l_net.proofs.Standing.{here, is_kind, fits_as, writes_there, writes_chan, ready_as, can_put, room-seen}

first_is_some : (o : Option (List ℤ)) → has_first (option_to_list o) ≡ is_some o
first_is_some None = refl
first_is_some (Some x) = refl

module _ {m : Seen} {p : ℕ} {q : Proc} (h : Stands m p q) (kind : q.kind ≡ Source) where
  pub fits_source : Fits m.tree h.sound.typed.widths q
  fits_source = fits_as h Source kind

  pub out_there : out_of q 0 < length m.queues
  out_there = writes_there h (out_of q 0) (first_in q.outs fits_source.outs)

  pub is_ready : ready_at m p ≡ (is_some m.inbox && room_at m (out_of q 0))
  unfolding row_can row.can state_of
  is_ready = ready_as h Source kind ∙ ap₂ (λ a b. a && b) (first_is_some m.inbox) (sym (room-seen m h.sound (out_of q 0)))

module _ {m : Seen} {p : ℕ} {q : Proc} (may : MayFire m p Source) (stands : slice_get m.net.procs p ≡ Some q) where
  h : Stands m p q
  h = here may stands

  kind : q.kind ≡ Source
  kind = is_kind may stands

  both : (is_some m.inbox ≡ true) × (room_at m (out_of q 0) ≡ true)
  both = and_parts _ _ (sym (is_ready h kind) ∙ may.ready)

  pub some : is_some m.inbox ≡ true
  some = both.0

  pub few : m.sent + 1 < 2 ^ 64
  few = let sent = may.sound.shaped.sent in let count = may.count in omega (arith, sent, count)

  pub puts : CanPut m (out_of q 0)
  puts = can_put h (out_of q 0) (first_in q.outs (fits_source h kind).outs) (sym (room-seen m h.sound (out_of q 0)) ∙ both.1)

  module _ (leaf : Leaf) (item : List ℤ) (is : m.inbox ≡ Some item) where
    abbrev token : Token
    token = plain (Value item)

    abbrev new : Seen
    new = ticked (with_last (item_sent m) (out_of q 0) token)

    new_state : (es : List Outcome) → state_of new es ≡ row.fire (state_of m es) q
    unfolding state_of row.fire push
    new_state es =
        let c : ℕ = out_of q 0 in
        let sends : (ℕ → List Token) → List (List ℤ) → State = λ t u. record { tokens = t; own = own_at m.owns; unsent = u; sent = m.sent + 1; emitted = es } in
        ap (λ t. sends t []) (tokens-appended m.queues c token puts.there)
        ∙ ap (λ o. sends (at (tokens_at m.queues) c (tokens_at m.queues c ++ plain (Value (first_or [] (option_to_list o))) ∷ [])) (rest_of (option_to_list o))) (sym is)

    sent : Done leaf m new p (out_of q 0 ∷ []) None
    unfolding state_of row_fire
    sent =
        let shaped = may.sound.shaped in
        let few_sent = shaped.sent in
        let few_emitted = shaped.emitted in
        record {
          fires = record {
            tree = refl;
            net = refl;
            fired = refl;
            state = λ es.
                ap (state_of new) (append-nil es) ∙ new_state es
                ∙ ap (λ x. row_fire x m.tree leaf m.net (state_of m es) p (own_at m.owns p) q) (sym kind)
                ∙ sym (fire_at m.tree m.net (state_of m es) p q stands leaf);
            emitted = λ es has. record { count = has.count ∙ ap length (sym (append-nil es)); trap = has.trap ∙ ap has_trap (sym (append-nil es)) };
          };
          moves = record {
            typed = may.sound.typed;
            tree = refl;
            net = refl;
            inside = (writes_chan h (out_of q 0) (first_in q.outs (fits_source h kind).outs), tt);
            own_channels = subst (λ o. AllByRecursion (IsAt o) (out_of q 0 ∷ [])) (sym stands) (inr (first_in q.outs (fits_source h kind).outs), tt);
            queues = λ c apart. tokens-other-put m.queues (out_of q 0) token c apart.0;
            grows = λ c none. put-grows q m.queues (out_of q 0) puts.there token (first_in q.outs (fits_source h kind).outs) c (none q stands);
            shrinks = λ c none. put-shrinks q m.queues (out_of q 0) puts.there token (first_in q.outs (fits_source h kind).outs) c (none q stands);
            owns = λ r other. refl;
            inbox = inl may.is;
          };
          shaped = record {
            rooms = rooms-appended m.queues (out_of q 0) token ∙ shaped.rooms;
            keeps = shaped.keeps;
            numbers = λ r. let few_counted = shaped.numbers r in omega (arith, few_counted);
            sent = omega (arith, few_sent);
            emitted = omega (arith, few_emitted);
          };
        }

    pub fired : (n : Seen) → n ≡ ticked (with_last (item_sent m) (out_of q 0) (plain (Value item))) → (touched : List ℕ) → touched ≡ out_of q 0 ∷ [] → Done leaf m n p touched None
    fired n e touched named = subst (λ cs. Done leaf m n p cs None) (sym named) (subst (λ x. Done leaf m x p (out_of q 0 ∷ []) None) (sym e) sent)
