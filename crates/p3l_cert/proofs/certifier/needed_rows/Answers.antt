use Rattle.std.proofs.Common.{List, sym, subst}
use Rattle.std.specs.List.Sorted.{IsPermutation}
use Rattle.std.proofs.lemmas.List.Sorted.{All-permutation}
use Rattle.p3l_cert.specs.declared.cert.Key.{Key}
use Rattle.p3l_cert.specs.Keys.{needed_keys, IsSmall}
use Rattle.p3l_cert.proofs.Whole.{needed_small, made_closed, needed_rows}
use Rattle.p3l_cert.proofs.certifier.needed_rows.Goals as goal

pub rows_of-requires-clause-small : goal.rows_of-requires-clause-small
rows_of-requires-clause-small c =
    let keys : List Key = needed_keys c.args.tree.now c.args.costs.now c.args.service c.args.processors in
    let sorted : IsPermutation keys c.as_slice-2.result.now =
    subst (IsPermutation keys) (sym c.as_slice-2.ensures.value) (subst (λ (xs : List Key). IsPermutation xs c.sort.new.keys.items) c.in_ok-keys.ensures c.sort.ensures.permutation) in
    All-permutation IsSmall keys c.as_slice-2.result.now sorted (needed_small c.args.tree.now c.args.costs.now c.requires.tree c.requires.costs c.args.service c.args.processors c.requires.service c.requires.some c.requires.few)

pub fill_all-requires-clause-closed : goal.fill_all-requires-clause-closed
fill_all-requires-clause-closed c =
    let keys : List Key = needed_keys c.args.tree.now c.args.costs.now c.args.service c.args.processors in
    let sorted : IsPermutation keys c.as_slice-2.result.now =
    subst (IsPermutation keys) (sym c.as_slice-2.ensures.value) (subst (λ (xs : List Key). IsPermutation xs c.sort.new.keys.items) c.in_ok-keys.ensures c.sort.ensures.permutation) in
    made_closed c.args.tree.now c.args.costs.now c.requires.tree c.requires.costs c.args.service c.args.processors c.as_slice-2.result.now sorted c.in_ok-rows.rows.items c.in_ok-rows.ensures

pub returns : goal.returns
returns c =
    let keys : List Key = needed_keys c.args.tree.now c.args.costs.now c.args.service c.args.processors in
    let sorted : IsPermutation keys c.as_slice-2.result.now =
    subst (IsPermutation keys) (sym c.as_slice-2.ensures.value) (subst (λ (xs : List Key). IsPermutation xs c.sort.new.keys.items) c.in_ok-keys.ensures c.sort.ensures.permutation) in
    needed_rows c.args.tree.now c.args.costs.now c.requires.tree c.requires.costs c.args.service c.args.processors c.as_slice-2.result.now sorted c.in_ok-rows.rows.items c.in_ok-rows.ensures c.fill_all.new.rows.items c.fill_all.ensures
