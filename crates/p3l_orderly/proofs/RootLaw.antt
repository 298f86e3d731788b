-- The root in the state of a machine that is restored is what the walk finds in the snapshot.
use Rattle.std.proofs.Common.{◌≡◌, ◌↔◌, ℕ, zero, suc, ◌+◌, ◌≤◌, Bool, true, false, IsTrue, Option, Some, None, cond, List, [], ◌∷◌, map, length, get_or, refl, sym, ap, ap₂, ◌∙◌, arith}
use Rattle.std.specs.Option.{option_to_list}
use Rattle.p3l_base.specs.declared.outcome.Outcome.TheVariants.{Trapped}
use Rattle.p3l_base.specs.declared.outcome.TrapKind.TheVariants.{Budget}
use Rattle.p3l_skel.specs.declared.tree.Tree.{Tree}
use Rattle.p3l_skel.specs.Counts.{HasLawfulCounts, count_of}
use Rattle.p3l_skel.specs.Lawful.{IsLawfulTree}
use Rattle.p3l_skel.specs.Numbers.{procs}
use Rattle.p3l_skel.specs.Tree.{nesting}
use Rattle.p3l_firing.specs.NetInvariants.{HaveInWords}
use Rattle.p3l_firing.specs.Nodes.{Leaf}
use Rattle.p3l_firing.specs.Shot.{own_of, state_of, token_of}
use Rattle.p3l_firing.specs.State.{State, own_at}
use Rattle.p3l_firing.specs.declared.net.Chan.{Chan}
use Rattle.p3l_firing.specs.declared.net.Net.{Net}
use Rattle.p3l_firing.specs.declared.shot.Own.{Own as SavedOwn}
use Rattle.p3l_firing.specs.declared.shot.SavedToken.{SavedToken}
use Rattle.p3l_firing.specs.declared.shot.Shot.{Shot}
use Rattle.p3l_firing.specs.declared.token.Token.{Token}
use Rattle.p3l_template.specs.Finding.{Finding, bares, finding_of, if_orderly}
use Rattle.p3l_template.specs.Part.{Part}
use Rattle.p3l_template.specs.Units.{Units}
use Rattle.p3l_template.specs.laws.BareLaw.{bares-length}
use Rattle.p3l_link.specs.Laws.{IsLinkable}
use Rattle.p3l_link.specs.Net.{root_base}
use Rattle.p3l_link.specs.Part.{root_part}
use Rattle.p3l_link.proofs.Counted.{root_counted}
use Rattle.p3l_link.proofs.LinkedLaws.{root_part_is}
use Rattle.p3l_link.proofs.Size.{piece_sized}
use Rattle.p3l_net.specs.Channel.{tokens_at}
use Rattle.p3l_net.specs.Machine.{state_of as state_in}
use Rattle.p3l_net.specs.Shot.{queues_of, restored}
use Rattle.p3l_orderly.specs.declared.walk.Found.{Found}
use Rattle.p3l_orderly.specs.Root.{IsOrderlyShot}
use Rattle.p3l_orderly.specs.Walked.{HasRoomAt, found_to, walk_found, walk_piece}
use Rattle.p3l_orderly.proofs.WalkLaw.{node_is_found}
use Rattle.p3l_orderly.proofs.WalkSteps.{found_of}

-- there is room for the root
pub root_room : (tree : Tree) (counts : List ℕ) → IsLawfulTree tree → HasLawfulCounts tree counts → procs tree counts 0 ≤ 4096 →
    HasRoomAt (walk_piece tree (count_of tree counts) nesting 0 root_base) root_base
root_room tree counts lawful fit few =
    let sized = piece_sized tree (count_of tree counts) 1 nesting 0 root_base lawful (root_counted tree counts lawful fit) in
    let p = sized.procs in
    let c = sized.chans in
    (omega (arith, p, few), omega (arith, c, few))

-- the tokens pending in the root, if something was found of it
pub root_some : (f : Finding) (p c : ℕ) (x : Found) → Some x ≡ found_to f p c → Some x.pending ≡ if_orderly f
unfolding if_orderly found_to
root_some f p c x e = go f.orderly e
  where
    pending_in : Option Found → Option (List Token)
    pending_in None = None
    pending_in (Some y) = Some y.pending

    go : (b : Bool) → Some x ≡ cond b (Some (found_of f.pending p c)) None → Some x.pending ≡ cond b (Some f.pending) None
    go true h = ap pending_in h
    go false h = ap pending_in h

pub root_none : (f : Finding) (p c : ℕ) → None ≡ found_to f p c → None ≡ if_orderly f
unfolding if_orderly found_to
root_none f p c e = go f.orderly e
  where
    go : (b : Bool) → None ≡ cond b (Some (found_of f.pending p c)) None → None ≡ cond b (Some f.pending) None
    go true h = absurd (cc h)
    go false h = refl

if_some : (f : Finding) (pending : List Token) → Some pending ≡ if_orderly f → (f.orderly ≡ true) × (pending ≡ f.pending)
unfolding if_orderly
if_some f pending e = go f.orderly e
  where
    there : Option (List Token) → List Token
    there None = []
    there (Some list) = list

    go : (b : Bool) → Some pending ≡ cond b (Some f.pending) None → (b ≡ true) × (pending ≡ f.pending)
    go true h = (refl, ap there h)
    go false h = absurd (cc h)

if_none : (f : Finding) → None ≡ if_orderly f → f.orderly ≡ false
unfolding if_orderly
if_none f e = go f.orderly e
  where
    go : (b : Bool) → None ≡ cond b (Some f.pending) None → b ≡ false
    go true h = absurd (cc h)
    go false h = refl

queue_tokens : (chans : List Chan) (lists : List (List SavedToken)) (c : ℕ) → length lists ≡ length chans →
    tokens_at (queues_of chans lists) c ≡ map token_of (get_or lists c [])
unfolding queues_of
queue_tokens [] [] c e = refl
queue_tokens [] (l ∷ ls) c e = absurd (omega (arith, e))
queue_tokens (chan ∷ chans) [] c e = absurd (omega (arith, e))
queue_tokens (chan ∷ chans) (l ∷ ls) zero e = refl
queue_tokens (chan ∷ chans) (l ∷ ls) (suc c) e = queue_tokens chans ls c (omega (arith, e))

own_restored : (owns : List SavedOwn) (p : ℕ) → own_at (map own_of owns) p ≡ own_of (get_or owns p (record { number = 0; held = [] }))
own_restored [] p = refl
own_restored (o ∷ os) zero = refl
own_restored (o ∷ os) (suc p) = own_restored os p

-- two states with the same tokens in all channels and processes
record IsSame (s t : State) : Type 0 where
  tokens : (c : ℕ) → t.tokens c ≡ s.tokens c
  own : (p : ℕ) → t.own p ≡ s.own p

restored_same : (tree : Tree) (net : Net) (shot : Shot) → length shot.chans ≡ length net.chans →
    IsSame (state_of shot) (state_in (restored tree net shot) [])
unfolding state_in restored
restored_same tree net shot lists = record {
  tokens = λ c. queue_tokens net.chans shot.chans c lists;
  own = own_restored shot.owns;
}

-- a leaf that is always in its place: it traps
trapping : Tree → Units
trapping tree = record { tree = tree; leaf = λ «module» words. Trapped (record { kind = Budget; «module» = 0 }) }

module _ (tree : Tree) (counts : List ℕ) (lawful : IsLawfulTree tree) (fit : HasLawfulCounts tree counts) where
  linkable : IsLinkable (trapping tree) counts 1
  unfolding trapping
  linkable = record { lawful = lawful; fit = fit; room = omega arith; gives = λ node words there form long. tt }

  -- the finding in the root depends on tokens alone
  same_found : (s t : State) → IsSame s t → finding_of t (root_part (trapping tree) counts) ≡ finding_of s (root_part (trapping tree) counts)
  same_found s t same =
      let root = root_part_is (trapping tree) counts 1 linkable in
      let law = root.lawful in
      let alike = law.reads s t (record { tokens = λ c from to. same.tokens c; own = λ p from to. same.own p }) in
      ap₂ (λ (o : Bool) (p : List Token). record { orderly = o; pending = bares p }) alike.orderly alike.pending

  abbrev found : State → Finding
  found t = walk_found tree (count_of tree counts) nesting 0 root_base t

  root_is : (leaf : Leaf) (s : State) → finding_of s (root_part (record { tree = tree; leaf = leaf }) counts) ≡ found s
  unfolding root_part
  root_is leaf s = node_is_found s (record { tree = tree; leaf = leaf }) (count_of tree counts) 1 nesting 0 root_base

  root_found : (leaf : Leaf) (s t : State) → IsSame s t →
      finding_of t (root_part (record { tree = tree; leaf = leaf }) counts) ≡ found s
  unfolding trapping
  root_found leaf s t same =
      root_is leaf t ∙ sym (root_is (λ «module» words. Trapped (record { kind = Budget; «module» = 0 })) t)
      ∙ same_found s t same ∙ root_is (λ «module» words. Trapped (record { kind = Budget; «module» = 0 })) s

  module _ (shot : Shot) (leaf : Leaf) (net : Net) (lists : length shot.chans ≡ length net.chans) where
    abbrev pub Holds : Type 0
    Holds = IsOrderlyShot (record { tree = tree; leaf = leaf }) counts net shot

    here : finding_of (state_in (restored tree net shot) []) (root_part (record { tree = tree; leaf = leaf }) counts)
        ≡ found (state_of shot)
    here = root_found leaf (state_of shot) (state_in (restored tree net shot) []) (restored_same tree net shot lists)

    pub unfit : (HaveInWords tree (option_to_list shot.inbox) → ⊥) → IsTrue false ↔ Holds
    unfolding state_in restored
    unfit never = (λ h. absurd (cc h), λ h. absurd (never h.orderly.items))

    pub unsorted : None ≡ if_orderly (found (state_of shot)) → IsTrue false ↔ Holds
    unsorted e = (
      λ h. absurd (cc h),
      λ h. (let no = if_none (found (state_of shot)) e in
          let yes = sym (ap (λ (f : Finding). f.orderly) here) ∙ h.orderly.root in
          absurd (cc (sym yes ∙ no))),
    )

    pub sorted : (pending : List Token) (result : Bool) → HaveInWords tree (option_to_list shot.inbox) →
        Some pending ≡ if_orderly (found (state_of shot)) →
        IsTrue result ↔ (shot.sent ≡ shot.emitted
        + (length ((state_of shot).tokens 1) + (length pending + length ((state_of shot).tokens 0)))) →
        IsTrue result ↔ Holds
    unfolding state_in restored
    sorted pending result words e h =
        let s : State = state_in (restored tree net shot) [] in
        let P : Part = root_part (record { tree = tree; leaf = leaf }) counts in
        let f = if_some (found (state_of shot)) pending e in
        let same = restored_same tree net shot lists in
        let one = ap (λ (xs : List Token). length xs) (same.tokens 1) in
        let none = ap (λ (xs : List Token). length xs) (same.tokens 0) in
        let left : length (P.pending s) ≡ length pending =
        sym (bares-length (P.pending s)) ∙ ap (λ (g : Finding). length g.pending) here ∙ sym (ap (λ (xs : List Token). length xs) f.1) in (
          λ y. record {
            orderly = record { root = ap (λ (g : Finding). g.orderly) here ∙ f.0; items = words };
            balanced = let sum = h.0 y in omega (arith, sum, one, none, left);
          },
          λ b. h.1 (let sum = b.balanced in omega (arith, sum, one, none, left)),
        )
