-- A program has one choice of costs and counts, and so one network.
use Rattle.std.proofs.Common.{◌≡◌, ℕ, List, [], ◌∷◌, Option, Some, None, refl, sym, ap, ◌∙◌, inl, inr, subst, arith}
use Rattle.p3l_skel.specs.declared.tree.Tree.{Tree}
use Rattle.p3l_cost.specs.declared.costs.Costs.{Costs}
use Rattle.p3l_cost.specs.File.{costs_in}
use Rattle.p3l_model.specs.Optimal.{IsChosen, IsNoLater}
use Rattle.p3l_io.specs.Content.{Held}
use Rattle.p3l_opts.specs.declared.command.Build.{Build}
use Rattle.p3l_run.specs.Network.{Network}
use Rattle.p3l_check.specs.Resolving.{ResolvedTree}
use Rattle.p3l_program.specs.declared.plan.Allotted.{Allotted}
use Rattle.p3l_program.specs.Plan.{AreSaid, IsAccepted, IsAllotted, IsBuilt, network_of}
use Rattle.p3l_program.specs.Load.{IsLoaded, LoadsNetwork}
use Rattle.p3l_program.specs.Origin.{built}
use Rattle.p3l_program.proofs.LoadSteps.{is_built, loaded_passes}

-- two lists, each no later than the other, are the same
no_later_twice : (xs ys : List ℕ) → IsNoLater xs ys → IsNoLater ys xs → xs ≡ ys
unfolding IsNoLater
no_later_twice [] [] h k = refl
no_later_twice [] (y ∷ ys) h k = absurd k
no_later_twice (x ∷ xs) [] h k = absurd h
no_later_twice (x ∷ xs) (y ∷ ys) (inl h) (inl k) = absurd (omega arith)
no_later_twice (x ∷ xs) (y ∷ ys) (inl h) (inr k) = absurd (let e = k.0 in omega arith)
no_later_twice (x ∷ xs) (y ∷ ys) (inr h) (inl k) = absurd (let e = h.0 in omega arith)
no_later_twice (x ∷ xs) (y ∷ ys) (inr h) (inr k) = (let e = h.0 in let l = no_later_twice xs ys h.1 k.1 in cc)

-- one list of counts is chosen
chosen_once : (tree : Tree) (cs : Costs) (processors : ℕ) (counts others : List ℕ) → IsChosen tree cs processors counts → IsChosen tree cs processors others → counts ≡ others
chosen_once tree cs processors counts others one two = no_later_twice counts others (one.first others two.optimal) (two.first counts one.optimal)

-- a text says one list of costs
pub said_alike : (tree : Tree) (said : Option (List ℕ)) (cs others : Costs) → AreSaid tree said cs → AreSaid tree said others → cs ≡ others
said_alike tree None cs others a b = a ∙ sym b
said_alike tree (Some text) cs others a b =
    let p = a.is.parsed in
    let q = b.is.parsed in
    let one : a.document ≡ b.document = cc in
    let x = a.says in
    let y = ap (costs_in tree) one ∙ b.says in
    cc

-- a text that comes to one program has one choice of counts for it
pub allotted_once : (text : List ℕ) (said : Option (List ℕ)) (processors : ℕ) (r other : ResolvedTree) (cs costs : Costs) (counts others : List ℕ) → ((x : ResolvedTree) → IsAccepted text x → x ≡ r) →
    IsAllotted text said processors r cs counts → IsAllotted text said processors other costs others → (other ≡ r) × (others ≡ counts)
allotted_once text said processors r other cs costs counts others only one two =
    let tree : other ≡ r = only other two.priced.accepted in
    let here : AreSaid r.tree said costs = subst (λ t. AreSaid t.tree said costs) tree two.priced.costs in
    let same : costs ≡ cs = said_alike r.tree said costs cs here one.priced.costs in
    let moved : IsChosen r.tree costs processors others = subst (λ t. IsChosen t.tree costs processors others) tree two.chosen in
    let chosen : IsChosen r.tree cs processors others = subst (λ c. IsChosen r.tree c processors others) same moved in
    (tree, chosen_once r.tree cs processors others counts chosen one.chosen)

module _ (files : Option Held) (build : Build) (r : ResolvedTree) (loaded : Allotted) (is : IsLoaded files build r loaded) where
  -- the network of the loaded program is the one that is requested
  same_counts : (other : ResolvedTree) (others : Costs) (counts : List ℕ) → IsAllotted is.text is.said build.processors other others counts → (other ≡ r) × (counts ≡ loaded.choice.counts.list)
  same_counts other others counts p = allotted_once is.text is.said build.processors r other loaded.costs others loaded.choice.counts.list counts is.comes.only is.allotted p

  -- so its network is the only one
  pub only_built : (other : Network) → IsBuilt build (record { text = is.text; said = is.said }) other → other ≡ network_of r loaded.choice.counts.list build.capacity
  only_built other b =
      let same = same_counts b.r b.cs b.counts b.allotted in
      b.network_is ∙ ap (λ t. network_of t b.counts build.capacity) same.0 ∙ ap (λ c. network_of r c build.capacity) same.1

  -- and it was loaded
  pub program_network : (n : Network) → n ≡ network_of r loaded.choice.counts.list build.capacity → LoadsNetwork files (built build) n
  program_network n n_is = record {
    texts = record { text = is.text; said = is.said };
    have = (is.has, is.says);
    is = subst (λ m. IsBuilt build (record { text = is.text; said = is.said }) m) (sym n_is) (is_built build r loaded files is);
    only = λ other o. only_built other o ∙ sym n_is;
    passed = λ change known. loaded_passes build r loaded change (subst (λ f. IsLoaded f build r loaded) (sym known) is);
  }
