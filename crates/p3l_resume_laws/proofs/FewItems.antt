-- A shot that fits a typed net whose channels have little room has few items: tokens, tags and words.
use Rattle.std.proofs.Common.{◌≡◌, ℕ, ℤ, ◌<◌, ◌≤◌, List, [], ◌∷◌, length, map, get_or, Some, None, Option, slice_get, ap, subst, arith}
use Rattle.std.specs.Prelude.{IfSome}
use Rattle.std.specs.List.{All, AllByRecursion}
use Rattle.std.specs.Option.{option_to_list}
use Rattle.std.proofs.lemmas.List.{get_or_default, get_or-map, length-map}
use Rattle.std.proofs.lemmas.List.Elements.{All-from_recursion, recursion_from_All}
use Rattle.p3l_base.specs.declared.outcome.Outcome.{Outcome}
use Rattle.p3l_base.specs.declared.outcome.Outcome.TheVariants.{Value, Trapped}
use Rattle.p3l_skel.specs.declared.tree.Tree.{Tree}
use Rattle.p3l_skel.specs.Tree.{HasLength, node_at, part_at}
use Rattle.p3l_firing.specs.declared.net.Net.{Net}
use Rattle.p3l_firing.specs.declared.process.Proc.{Proc}
use Rattle.p3l_firing.specs.declared.process.ProcKind.{ProcKind}
use Rattle.p3l_firing.specs.declared.process.ProcKind.TheVariants as kinds
use Rattle.p3l_firing.specs.State.{chan_at, fresh}
use Rattle.p3l_firing.specs.Typed.{FitsKind, FitsOwn, IsTyped}
use Rattle.p3l_firing.specs.Widths.{AllFit, HasWidth, Widths}
use Rattle.p3l_firing.specs.Shot.{HasFewTags, own_of, own_saved_at, saved_at, token_of}
use Rattle.p3l_firing.specs.declared.shot.Own.{Own as SavedOwn}
use Rattle.p3l_firing.specs.declared.shot.SavedToken.{SavedToken}
use Rattle.p3l_firing.specs.declared.shot.Shot.{Shot}
use Rattle.p3l_net.specs.Channel.{Queue, tokens_at}
use Rattle.p3l_net.specs.Fitting.{HoldsFew}
use Rattle.p3l_net.specs.Machine.{state_of}
use Rattle.p3l_net.specs.Shot.{Fits, HasRoom, IsHeld, queues_of, restored}
use Rattle.p3l_net.proofs.Saving.{fits_held, queue-there}
use Rattle.p3l_resume.specs.Ranges.{AreFew, HasFewItems, HasFewWords, IsFew, IsShort}
use Rattle.p3l_resume_laws.proofs.FewTokens.{few_held, stands_there}
use Rattle.p3l_resume_laws.proofs.WidthsLaw.{few_ins, few_outs, widths_few}

few_words : (w : ℕ) → w ≤ 65536 → (o : Outcome) → HasLength w o → HasFewWords o
few_words w few (Value words) long = omega (arith, few, long)
few_words w few (Trapped trap) long = tt

short_each : (w t : ℕ) → w ≤ 65536 → (saved : List SavedToken) → AllByRecursion HasFewTags saved → AllByRecursion (HasWidth w t) (map token_of saved) →
    AllByRecursion IsShort saved
short_each w t few [] tags words = tt
short_each w t few (x ∷ xs) tags words =
    let own = tags.0 in
    (record { tags = omega (arith, own); body = few_words w few x.body words.0.words }, short_each w t few xs tags.1 words.1)

few_tokens : (w t : ℕ) → w ≤ 65536 → (saved : List SavedToken) → All HasFewTags saved → AllByRecursion (HasWidth w t) (map token_of saved) →
    length saved ≤ 65536 → AreFew saved
few_tokens w t few saved tags words count = record {
  count = omega (arith, count);
  each = All-from_recursion IsShort saved (short_each w t few saved (recursion_from_All HasFewTags saved tags) words);
}

no_tokens : (saved : List SavedToken) → map token_of saved ≡ [] → AreFew saved
no_tokens [] e = record { count = omega arith; each = All-from_recursion IsShort [] tt }
no_tokens (x ∷ xs) e = cc

module _ (tree : Tree) (net : Net) (typed : IsTyped tree net) (rooms : (c : ℕ) → (chan_at net c).cap ≤ 1024) where
  abbrev w : Widths
  w = typed.widths

  module _ (q : Proc) (saved : SavedOwn) (tags : All HasFewTags saved.held) where
    long : length (own_of saved).held ≡ length saved.held
    long = length-map saved.held token_of

    held_short : (k : ProcKind) → FitsKind k tree w q → FitsOwn k tree w q (own_of saved) → length saved.held ≤ 65536 → AreFew saved.held
    held_short kinds.Source fit h count = no_tokens saved.held h
    held_short kinds.Sink fit h count = no_tokens saved.held h
    held_short kinds.Run fit h count = no_tokens saved.held h
    held_short kinds.Emit fit h count = no_tokens saved.held h
    held_short kinds.Collect fit h count = no_tokens saved.held h
    held_short kinds.Scatter fit h count =
        let takes = fit.takes in
        few_tokens _ _ (omega (arith, takes, few_ins tree typed.lawful q.node)) saved.held tags h.held count
    held_short kinds.Gather fit h count =
        few_tokens _ _ (few_outs tree typed.lawful (part_at tree q.node 0)) saved.held tags h.held count
    held_short kinds.Split fit h count =
        let takes = fit.takes in
        few_tokens _ _ (omega (arith, takes, few_ins tree typed.lawful q.node)) saved.held tags h.held count
    held_short kinds.FoldGather fit h count = few_tokens _ _ (few_outs tree typed.lawful q.node) saved.held tags h.held count
    held_short kinds.Join fit h count = no_tokens saved.held h
    held_short kinds.Head fit h count = no_tokens saved.held h
    held_short kinds.Tail fit h count =
        let takes = fit.takes.words in
        few_tokens _ _ (omega (arith, takes, few_outs tree typed.lawful q.node)) saved.held tags h count

    held_few : (k : ProcKind) → FitsKind k tree w q → FitsOwn k tree w q (own_of saved) → HoldsFew k net q saved → AreFew saved.held
    held_few k fit h few =
        let count = few_held tree net typed rooms q saved k fit h few in held_short k fit h (omega (arith, count, long))

  module _ (shot : Shot) (fits : Fits tree net w shot)
      (holds : (p : ℕ) (q : Proc) → slice_get net.procs p ≡ Some q → HoldsFew q.kind net q (own_saved_at shot p)) where
    held : IsHeld net shot
    held = fits_held tree net w typed.few_tags shot fits

    few_sent : (c : ℕ) (d : List SavedToken) → c < length shot.chans → AreFew (get_or shot.chans c d)
    unfolding restored state_of
    few_sent c d there =
        let inside : c < length net.chans = subst (λ n. c < n) fits.chans there in
        let same : tokens_at (queues_of net.chans shot.chans) c ≡ map token_of (saved_at shot c) =
        ap (λ (queue : Queue). queue.tokens) (queue-there net.chans shot.chans c inside) in
        let here : HasRoom (chan_at net c) (saved_at shot c) = held.chans c inside in
        let room = here.room in
        subst AreFew (get_or_default shot.chans c [] d there)
        (few_tokens _ _ (widths_few tree net typed c inside) (saved_at shot c) here.tags
        (subst (AllFit w c) same (fits.state.tokens c)) (omega (arith, room, rooms c)))

    few_kept : (p : ℕ) (d : SavedOwn) → p < length shot.owns → AreFew (get_or shot.owns p d).held
    unfolding restored state_of
    few_kept p d there =
        let stands = stands_there net.procs p (subst (λ n. p < n) fits.owns there) in
        let q : Proc = stands.0 in
        let fit = subst (FitsOwn q.kind tree w q) (get_or-map own_of shot.owns p d fresh there) (fits.state.owns p q stands.1) in
        let few = subst (HoldsFew q.kind net q) (get_or_default shot.owns p _ d there) (holds p q stands.1) in
        held_few q (get_or shot.owns p d) (held.owns p d there) q.kind (typed.processes p q stands.1) fit few

    few_inbox : (n : ℕ) → n ≤ 65536 → (inbox : Option (List ℤ)) → AllByRecursion (λ (words : List ℤ). length words ≡ n) (option_to_list inbox) →
        IfSome inbox (λ (item : List ℤ). IsFew item)
    few_inbox n few None all = tt
    few_inbox n few (Some words) all = let first = all.0 in omega (arith, few, first)

    pub few_items : HasFewItems shot
    unfolding restored state_of
    few_items =
        let sent = fits.countable.sent in
        let emitted = fits.countable.emitted in
        let numbers = fits.countable.numbers in
        let procs = typed.few_procs in
        let chans = typed.few_chans in
        let owns_are = fits.owns in
        let chans_are = fits.chans in
        record {
          sent = omega (arith, sent);
          emitted = omega (arith, emitted);
          inbox = few_inbox (node_at tree 0).ins (few_ins tree typed.lawful 0) shot.inbox fits.state.unsent;
          count_owns = omega (arith, procs, owns_are);
          numbers = λ k d there. let low = numbers k d there in omega (arith, low);
          owns = few_kept;
          count_chans = omega (arith, chans, chans_are);
          chans = few_sent;
        }
