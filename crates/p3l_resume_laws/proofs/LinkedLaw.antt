-- Runs of linked nets from any state in which one can be.
use Rattle.std.proofs.Common.{◌≡◌, ℕ, ℤ, ◌+◌, ◌*◌, ◌&&◌, true, false, List, [], ◌∷◌, ◌++◌, length, map, refl, sym, ap, ap₂, ◌∙◌, subst, inl, inr, arith, append_assoc, length-append}
use Rattle.std.specs.List.{AllByRecursion}
use Rattle.std.proofs.lemmas.Bool.{cases_Bool, cond-true, cond-false}
use Rattle.std.proofs.lemmas.List.{length-map}
use Rattle.p3l_base.specs.declared.outcome.Outcome.{Outcome}
use Rattle.p3l_skel.specs.Item.{item}
use Rattle.p3l_skel.specs.Numbers.{firings}
use Rattle.p3l_skel.specs.Tree.{node_at, HasLength}
use Rattle.p3l_firing.specs.declared.net.Net.{Net}
use Rattle.p3l_firing.specs.declared.token.Token.{Token}
use Rattle.p3l_firing.specs.NetInvariants.{Invariants, HaveInWords, HasInvariants}
use Rattle.p3l_firing.specs.Fire.{can_fire, fire}
use Rattle.p3l_firing.specs.Outcomes.{up_to_first_trap}
use Rattle.p3l_firing.specs.Run.{Course, after_picks, course_from, picked, run_from}
use Rattle.p3l_firing.specs.Single.{the_source}
use Rattle.p3l_firing.specs.State.{State, first_state, with_rest}
use Rattle.p3l_firing.specs.Token.{bodies, has_trap, over}
use Rattle.p3l_firing.specs.Typed.{IsFitting, IsTyped}
use Rattle.p3l_firing.specs.Widths.{AllFit}
use Rattle.p3l_template.specs.Part.{Part, line}
use Rattle.p3l_template.specs.Units.{Units, outcome_at}
use Rattle.p3l_link.specs.Laws.{IsLinkable, IsOrderly, net_of}
use Rattle.p3l_link.specs.Net.{linked_net}
use Rattle.p3l_link.specs.Part.{root_part}
use Rattle.p3l_link.specs.Whole.{root_invariants}
use Rattle.p3l_link.proofs.NetInvariants.{root_means, root_sound}
use Rattle.p3l_link.proofs.LinkedLaws.{fired, fired_fitting, first_fitting, net_has_invariants, owed_bounded, run_bounded, run_begun}
use Rattle.p3l_link.proofs.Round.{long_all}
use Rattle.p3l_resume_laws.specs.Linked.{BothPartsAreBounded, CanResume, EveryRestCanResume, EveryResumedRunEmitsWhatIsLeft, EveryResumedRunEnds, EveryRunCanResume, EveryRunStaysBalanced, EveryStartCanResume, EveryStartIsBalanced, IsBalanced, ResumedFiringsAreBounded, ahead_of, left_in}
use Rattle.p3l_firing.specs.Orderly as balance
use Rattle.p3l_firing.proofs.CutLaw.{unbroken}
use Rattle.p3l_firing.proofs.EmitsLaw.{emits}
use Rattle.p3l_firing.proofs.OrderlyLaw.{few_firings, kept_balanced, kept_run}
use Rattle.p3l_sched.proofs.PicksLaw.{made_stuck}

bodies-append : (xs ys : List Token) → bodies (xs ++ ys) ≡ bodies xs ++ bodies ys
unfolding bodies
bodies-append [] ys = refl
bodies-append (x ∷ xs) ys = ap (λ z. x.body ∷ z) (bodies-append xs ys)

length-bodies : (xs : List Token) → length (bodies xs) ≡ length xs
unfolding bodies
length-bodies [] = refl
length-bodies (x ∷ xs) = let more = length-bodies xs in omega arith

-- the outcomes of tokens whose values have n words
pub HaveWords : ℕ → List Token → Type 0
HaveWords n tokens = AllByRecursion (λ (token : Token). HasLength n token.body) tokens

bodies-over : (f g : Outcome → Outcome) (n : ℕ) → ((o : Outcome) → HasLength n o → f o ≡ g o) → (xs : List Token) → HaveWords n xs → bodies (map (over f) xs) ≡ map g (bodies xs)
unfolding bodies HaveWords
bodies-over f g n same [] long = refl
bodies-over f g n same (x ∷ xs) long = ap₂ (λ o os. o ∷ os) (same x.body long.0) (bodies-over f g n same xs long.1)

pub items_append : (n : ℕ) (xs ys : List (List ℤ)) → AllByRecursion (λ (words : List ℤ). length words ≡ n) xs → AllByRecursion (λ (words : List ℤ). length words ≡ n) ys → AllByRecursion (λ (words : List ℤ). length words ≡ n) (xs ++ ys)
items_append n [] ys all more = more
items_append n (x ∷ xs) ys all more = (all.0, items_append n xs ys all.1 more)

pub invariants_orderly : (units : Units) (counts : List ℕ) (s : State) → IsOrderly units counts s → (root_invariants units counts).orderly s ≡ true
invariants_orderly units counts s o = ap₂ (λ a b. a && b) o.root (long_all (node_at units.tree 0).ins s.unsent o.items)

module _ (units : Units) (counts : List ℕ) (cap : ℕ) (l : IsLinkable units counts cap) where
  abbrev net : Net
  net = net_of units counts cap

  abbrev P : Part
  P = root_part units counts

  abbrev invariants : Invariants
  invariants = root_invariants units counts

  abbrev ins : ℕ
  ins = (node_at units.tree 0).ins

  abbrev laws : HasInvariants units.tree units.leaf net (firings units.tree counts) invariants
  laws = net_has_invariants units counts cap l

  -- the tokens after the root, in it and before it
  line_is : (s : State) → line P s ≡ s.tokens 1 ++ (P.pending s ++ map (over P.meaning) (s.tokens 0))
  unfolding line
  line_is s =
      let root = root_sound units counts cap l.lawful l.fit l.room in
      ap₂ (λ o i. s.tokens o ++ (P.pending s ++ map (over P.meaning) (s.tokens i))) root.output root.input

  length-to_come : (s : State) → length (invariants.to_come s) ≡ length (s.tokens 1) + (length (P.pending s) + length (s.tokens 0))
  length-to_come s =
      let all = length-bodies (line P s) in
      let parts : length (line P s) ≡ length (s.tokens 1 ++ (P.pending s ++ map (over P.meaning) (s.tokens 0))) = ap length (line_is s) in
      let later = length-append (s.tokens 1) (P.pending s ++ map (over P.meaning) (s.tokens 0)) in
      let inner = length-append (P.pending s) (map (over P.meaning) (s.tokens 0)) in
      let waiting = length-map (s.tokens 0) (over P.meaning) in
      omega (arith, all, parts, later, inner, waiting)

  to_balanced : (s : State) → balance.IsBalanced invariants s → IsBalanced units counts s
  to_balanced s balanced = let long = length-to_come s in omega (arith, balanced, long)

  from_balanced : (s : State) → IsBalanced units counts s → balance.IsBalanced invariants s
  from_balanced s balanced = let long = length-to_come s in omega (arith, balanced, long)

  to_come_is : (s : State) → HaveWords ins (s.tokens 0) →
      invariants.to_come s ≡ bodies (s.tokens 1) ++ (bodies (P.pending s) ++ map (outcome_at units 0) (bodies (s.tokens 0)))
  to_come_is s waiting =
      let means = root_means units counts cap l.lawful l.fit l.room l.gives in
      ap bodies (line_is s)
      ∙ bodies-append (s.tokens 1) (P.pending s ++ map (over P.meaning) (s.tokens 0))
      ∙ ap (λ z. bodies (s.tokens 1) ++ z)
      (bodies-append (P.pending s) (map (over P.meaning) (s.tokens 0))
      ∙ ap (λ z. bodies (P.pending s) ++ z) (bodies-over P.meaning (outcome_at units 0) ins means.same (s.tokens 0) waiting))

  pub ahead_is : (s : State) → HaveWords ins (s.tokens 0) →
      invariants.to_come s ++ map (item units.tree units.leaf 0) s.unsent ≡ ahead_of units counts s
  ahead_is s waiting =
      let after : List Outcome = bodies (s.tokens 1) in
      let pending : List Outcome = bodies (P.pending s) in
      let before : List Outcome = map (outcome_at units 0) (bodies (s.tokens 0)) in
      let items : List Outcome = map (item units.tree units.leaf 0) s.unsent in
      ap (λ z. z ++ items) (to_come_is s waiting)
      ∙ append_assoc after (pending ++ before) items
      ∙ ap (λ z. after ++ z) (append_assoc pending before items)

  left_is : (s : State) → HaveWords ins (s.tokens 0) → balance.left_from units.tree units.leaf invariants s ≡ left_in units counts s
  left_is s waiting = ap up_to_first_trap (ahead_is s waiting)

  module _ (typed : IsTyped units.tree net) where
    -- the source sends the root's in words into channel 0
    words_waiting : typed.widths.words 0 ≡ ins
    unfolding linked_net
    words_waiting = (typed.processes 0 the_source refl).gives.words

    pub have_words : (tokens : List Token) → AllFit typed.widths 0 tokens → HaveWords ins tokens
    unfolding HaveWords
    have_words [] all = tt
    have_words (x ∷ xs) all = (subst (λ n. HasLength n x.body) words_waiting all.0.words, have_words xs all.1)

    -- the invariant of every run, whether a trap was emitted or not
    record IsInPlace (s : State) : Type 0 where
      orderly : IsOrderly units counts s
      fitting : IsFitting units.tree net typed.widths s

    placed_fired : (s : State) (p : ℕ) → can_fire units.tree net s p ≡ true → IsInPlace s → IsInPlace (fire units.tree units.leaf net s p)
    placed_fired s p can k = record {
      orderly = (fired units counts cap s p l k.orderly can).orderly;
      fitting = fired_fitting units counts cap typed s p l.gives k.fitting can;
    }

    placed_picked : (c : Course) (p : ℕ) → IsInPlace c.state → IsInPlace (picked units.tree units.leaf net c p).state
    unfolding picked
    placed_picked c p k =
        elim (cases_Bool (can_fire units.tree net c.state p)) [
          | inl can ↦ subst (λ (x : Course). IsInPlace x.state) (sym (cond-true _ _ _ can)) (placed_fired c.state p can k)
          | inr cannot ↦ subst (λ (x : Course). IsInPlace x.state) (sym (cond-false _ _ _ cannot)) k
        ]

    placed_picks : (c : Course) (picks : List ℕ) → IsInPlace c.state → IsInPlace (after_picks units.tree units.leaf net c picks).state
    unfolding after_picks
    placed_picks c [] k = k
    placed_picks c (p ∷ picks) k = placed_picks (picked units.tree units.leaf net c p) picks (placed_picked c p k)

    pub run_resumes : (s : State) (picks : List ℕ) → CanResume units counts cap typed s →
        has_trap (run_from units.tree units.leaf net s picks).state.emitted ≡ false →
        CanResume units counts cap typed (run_from units.tree units.leaf net s picks).state
    run_resumes s picks r untrapped =
        let k = placed_picks (course_from s) picks (record { orderly = r.orderly; fitting = r.fitting }) in
        record { orderly = k.orderly; fitting = k.fitting; untrapped = untrapped }

    pub rest_resumes : (s : State) (rest : List (List ℤ)) → CanResume units counts cap typed s → HaveInWords units.tree rest →
        CanResume units counts cap typed (with_rest s rest)
    unfolding with_rest
    rest_resumes s rest r long =
        let alike = (root_sound units counts cap l.lawful l.fit l.room).lawful.reads s (with_rest s rest)
        (record { tokens = λ c from to. refl; own = λ p from to. refl }) in
        let items = items_append ins s.unsent rest r.orderly.items long in
        record {
          orderly = record { root = alike.orderly ∙ r.orderly.root; items = items };
          fitting = record { rooms = r.fitting.rooms; tokens = r.fitting.tokens; owns = r.fitting.owns; unsent = items };
          untrapped = r.untrapped;
        }

pub start_resumes : EveryStartCanResume
unfolding first_state has_trap
start_resumes units counts cap typed items l long = record {
  orderly = (run_begun units counts cap items l long).orderly;
  fitting = first_fitting units counts cap typed items long;
  untrapped = refl;
}

-- a net is balanced if nothing was sent or emitted, and nothing is to come
balanced_at_first : (c : Invariants) (s : State) → s.sent ≡ 0 → s.emitted ≡ [] → c.to_come s ≡ [] → balance.IsBalanced c s
balanced_at_first c s sent emitted to_come = sent ∙ sym (ap₂ (λ es os. length es + length os) emitted to_come)

pub start_balanced : EveryStartIsBalanced
unfolding first_state
start_balanced units counts cap items l long =
    let begins = (net_has_invariants units counts cap l).begins items long in
    to_balanced units counts cap l (first_state (net_of units counts cap) items)
    (balanced_at_first (root_invariants units counts) (first_state (net_of units counts cap) items) refl refl begins.to_come)

pub every_run_resumes : EveryRunCanResume
every_run_resumes units counts cap typed s picks l r untrapped = run_resumes units counts cap l typed s picks r untrapped

pub every_rest_resumes : EveryRestCanResume
every_rest_resumes units counts cap typed s rest l r long = rest_resumes units counts cap l typed s rest r long

pub run_balanced : EveryRunStaysBalanced
run_balanced units counts cap s picks l orderly balanced =
    let k = kept_run units.tree units.leaf (net_of units counts cap) _ (root_invariants units counts) (net_has_invariants units counts cap l) s
    (invariants_orderly units counts s orderly) picks in
    to_balanced units counts cap l _
    (kept_balanced units.tree units.leaf (net_of units counts cap) _ (root_invariants units counts) (net_has_invariants units counts cap l) s _ k
    (from_balanced units counts cap l s balanced))

pub resumed_emits : EveryResumedRunEmitsWhatIsLeft
resumed_emits units counts cap typed s picks l r =
    subst (λ left. balance.Emits units.tree (net_of units counts cap) left s (run_from units.tree units.leaf (net_of units counts cap) s picks).state)
    (left_is units counts cap l s (have_words units counts cap l typed (s.tokens 0) (r.fitting.tokens 0)))
    (emits units.tree units.leaf (net_of units counts cap) _ (root_invariants units counts) (net_has_invariants units counts cap l) s picks
    (invariants_orderly units counts s r.orderly) r.untrapped)

pub resumed_bounded : ResumedFiringsAreBounded
resumed_bounded units counts cap s picks l orderly =
    let k = kept_run units.tree units.leaf (net_of units counts cap) _ (root_invariants units counts) (net_has_invariants units counts cap l) s
    (invariants_orderly units counts s orderly) picks in
    let few = few_firings units.tree units.leaf (net_of units counts cap) _ (root_invariants units counts) (net_has_invariants units counts cap l) s _ k in
    let owed = owed_bounded units counts cap s l orderly in
    omega (arith, few, owed)

pub resumed_ends : EveryResumedRunEnds
resumed_ends units counts cap s way most l orderly made enough =
    let owed = owed_bounded units counts cap s l orderly in
    made_stuck units.tree units.leaf (net_of units counts cap) (firings units.tree counts) (root_invariants units counts)
    (net_has_invariants units counts cap l) s (invariants_orderly units counts s orderly) way made most (omega (arith, owed, enough))

pub both_bounded : BothPartsAreBounded
both_bounded units counts cap u w a b l long filled =
    let one = unbroken units.tree units.leaf (net_of units counts cap) u w a b filled in
    let bounded = run_bounded units counts cap (u ++ w) (a ++ b) l long in
    let fires = ap (λ (c : Course). c.fired) one in
    let sends = ap (λ (c : Course). c.state.sent) one in
    let most = ap (λ n. firings units.tree counts * n) sends in
    omega (arith, bounded, fires, most)
