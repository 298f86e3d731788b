-- The number of tokens of a shot that fits a net: those in its channels, as far as there is room, and those that its processes hold.
use Rattle.std.proofs.Common.{◌≡◌, ℕ, zero, suc, ◌+◌, ◌*◌, ◌<◌, ◌≤◌, List, [], ◌∷◌, length, Some, Option, slice_get, refl, sym, ap, subst, arith}
use Rattle.std.proofs.lemmas.List.{get_or-map, length-map}
use Rattle.p3l_base.specs.declared.cut.Cut.{Cut}
use Rattle.p3l_base.specs.Cut.{element_count}
use Rattle.p3l_skel.specs.declared.tree.Form.{Form}
use Rattle.p3l_skel.specs.declared.tree.Form.TheVariants.{Map, Reduce}
use Rattle.p3l_skel.specs.declared.tree.Tree.{Tree}
use Rattle.p3l_skel.specs.Counts.{IsLawfulCount}
use Rattle.p3l_skel.specs.Lawful.{IsLawfulTree}
use Rattle.p3l_skel.specs.Tree.{node_at}
use Rattle.p3l_firing.specs.declared.net.Net.{Net}
use Rattle.p3l_firing.specs.declared.process.Proc.{Proc}
use Rattle.p3l_firing.specs.declared.process.ProcKind.{ProcKind}
use Rattle.p3l_firing.specs.declared.process.ProcKind.TheVariants as kinds
use Rattle.p3l_firing.specs.declared.token.Token.{Token}
use Rattle.p3l_firing.specs.Nodes.{cut_of, last_element}
use Rattle.p3l_firing.specs.Process.{out_of}
use Rattle.p3l_firing.specs.State.{LocalState, State, chan_at, fresh}
use Rattle.p3l_firing.specs.Typed.{FitsKind, FitsOwn, IsTyped}
use Rattle.p3l_firing.specs.Widths.{Widths}
use Rattle.p3l_firing.proofs.LawfulForms.{map_part}
use Rattle.p3l_firing.specs.Shot.{own_of, own_saved_at, token_of}
use Rattle.p3l_firing.specs.declared.shot.Own.{Own as SavedOwn}
use Rattle.p3l_firing.specs.declared.shot.Shot.{Shot}
use Rattle.p3l_net.specs.Fitting.{HoldsFew}
use Rattle.p3l_net.specs.Machine.{state_of}
use Rattle.p3l_net.specs.Shot.{Fits, restored}
use Rattle.p3l_template.specs.Part.{in_channels, in_hands}
use Rattle.p3l_link.specs.Whole.{tokens_in}
use Rattle.p3l_resume_laws.proofs.Elements.{elements_low}
use Rattle.p3l_resume_laws.proofs.WidthsLaw.{few_outs}

-- a map has few elements
few_elements : (tree : Tree) (lawful : IsLawfulTree tree) (k : ℕ) → k < length tree.nodes → (workers : Option ℕ) (cut : Cut) →
    (node_at tree k).form ≡ Map workers cut → last_element tree k + 1 ≤ 65536
unfolding last_element
few_elements tree lawful k inside workers cut is =
    let part = map_part tree lawful k inside is in
    let cuts = part.cuts in
    let low : element_count cut ≤ _ =
    elements_low cut cuts.lawful_outs (λ i s there j d within. ((part.out_sizes i s there).1 j d within).0) in
    let same : element_count (cut_of (node_at tree k).form) ≡ element_count cut = ap (λ (f : Form). element_count (cut_of f)) is in
    let end = cuts.outs_end in
    let outs = few_outs tree lawful k in
    omega (arith, low, same, end, outs)

-- and a reduce few segments
few_segments : (f : Form) (n : ℕ) (workers : Option ℕ) (len elem : ℕ) → f ≡ Reduce workers len elem → IsLawfulCount f n → n ≤ 65536
few_segments f n workers len elem is count =
    let own : IsLawfulCount (Reduce workers len elem) n = subst (λ z. IsLawfulCount z n) is count in
    let range = own.1.2 in omega (arith, range)

none_few : (tokens : List Token) → tokens ≡ [] → length tokens ≤ 65536
none_few tokens none = let count = ap (λ (xs : List Token). length xs) none in omega (arith, count)

pub stands_there : (procs : List Proc) (p : ℕ) → p < length procs → (q : Proc) × (slice_get procs p ≡ Some q)
stands_there [] p there = absurd (omega (arith, there))
stands_there (q ∷ procs) zero there = (q, refl)
stands_there (q ∷ procs) (suc p) there = stands_there procs p (omega (arith, there))

-- channels with at most 1,024 tokens each, and processes that hold at most 65,536 each
channels_few : (s : State) → ((c : ℕ) → length (s.tokens c) ≤ 1024) → (c k : ℕ) → in_channels s c k ≤ 1024 * k
unfolding in_channels
channels_few s few c zero = omega arith
channels_few s few c (suc k) = let here = few c in let others = channels_few s few (suc c) k in omega (arith, here, others)

hands_few : (s : State) (n : ℕ) → ((p : ℕ) → p < n → length (s.own p).held ≤ 65536) → (p k : ℕ) → p + k ≤ n → in_hands s p k ≤ 65536 * k
unfolding in_hands
hands_few s n few p zero inside = omega arith
hands_few s n few p (suc k) inside =
    let here = few p (omega (arith, inside)) in
    let others = hands_few s n few (suc p) k (omega (arith, inside)) in
    omega (arith, here, others)

module _ (tree : Tree) (net : Net) (typed : IsTyped tree net) (rooms : (c : ℕ) → (chan_at net c).cap ≤ 1024) where
  abbrev w : Widths
  w = typed.widths

  module _ (q : Proc) (saved : SavedOwn) where
    long : length (own_of saved).held ≡ length saved.held
    long = length-map saved.held token_of

    pub few_held : (k : ProcKind) → FitsKind k tree w q → FitsOwn k tree w q (own_of saved) → HoldsFew k net q saved →
        length (own_of saved).held ≤ 65536
    few_held kinds.Source fit h few = none_few (own_of saved).held h
    few_held kinds.Sink fit h few = none_few (own_of saved).held h
    few_held kinds.Run fit h few = none_few (own_of saved).held h
    few_held kinds.Emit fit h few = none_few (own_of saved).held h
    few_held kinds.Collect fit h few = none_few (own_of saved).held h
    few_held kinds.Scatter fit h few = omega (arith, few, long)
    few_held kinds.Gather fit h few =
        let count = h.few in
        omega (arith, count, few_elements tree typed.lawful q.node fit.node fit.workers fit.cut fit.form)
    few_held kinds.Split fit h few = omega (arith, few, long)
    few_held kinds.FoldGather fit h few =
        let count = h.few in
        omega (arith, count, few_segments (node_at tree q.node).form (length q.ins) fit.workers fit.len fit.elem fit.form fit.count)
    few_held kinds.Join fit h few = none_few (own_of saved).held h
    few_held kinds.Head fit h few = none_few (own_of saved).held h
    few_held kinds.Tail fit h few = omega (arith, few, long, rooms (out_of q 2))

  module _ (shot : Shot) (fits : Fits tree net w shot)
      (holds : (p : ℕ) (q : Proc) → slice_get net.procs p ≡ Some q → HoldsFew q.kind net q (own_saved_at shot p)) where
    abbrev s : State
    s = state_of (restored tree net shot) []

    few_sent : (c : ℕ) → length (s.tokens c) ≤ 1024
    few_sent c = let room = fits.state.rooms c in omega (arith, room, rooms c)

    few_kept : (p : ℕ) → p < length net.procs → length (s.own p).held ≤ 65536
    unfolding restored state_of
    few_kept p inside =
        let there : p < length shot.owns = subst (λ n. p < n) (sym fits.owns) inside in
        let stands = stands_there net.procs p inside in
        let q : Proc = stands.0 in
        let saved : SavedOwn = own_saved_at shot p in
        let same : s.own p ≡ own_of saved = get_or-map own_of shot.owns p (record { number = 0; held = [] }) fresh there in
        let fit = subst (FitsOwn q.kind tree w q) same (fits.state.owns p q stands.1) in
        subst (λ (o : LocalState). length o.held ≤ 65536) (sym same)
        (few_held q saved q.kind (typed.processes p q stands.1) fit (holds p q stands.1))

    pub few_tokens_in : tokens_in net s ≤ 1024 * length net.chans + 65536 * length net.procs
    unfolding tokens_in
    few_tokens_in =
        let sent = channels_few s few_sent 0 (length net.chans) in
        let kept = hands_few s (length net.procs) few_kept 0 (length net.procs) (omega arith) in
        omega (arith, sent, kept)
