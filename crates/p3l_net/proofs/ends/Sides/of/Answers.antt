use Rattle.std.proofs.Common.{◌≡◌, ◌<◌, ◌≤◌, List, length, arith, subst, sym, ap, ◌∙◌, replicate, map, get_or}
use Rattle.std.specs.List.{AllByRecursion}
use Rattle.p3l_firing.specs.declared.process.Proc.{Proc}
use Rattle.p3l_net.specs.Descriptor.{descriptor_of}
use Rattle.p3l_net.specs.Steps.{marked}
use Rattle.p3l_net.proofs.Sides.{Entered, none_entered, all_entered, get_is, some_procs, outs_inside, ins_inside, entered_writers, entered_readers}
use Rattle.p3l_net.proofs.ends.Sides.of.Goals as goal

pub loop-p-init : goal.loop-p-init
loop-p-init c = record {
  writers = none_entered (λ (q : Proc). q.outs) c.args.net.now.procs (length c.args.net.now.chans) (some_procs c.requires.1) _ (c.in_ok-writers.ensures.items_if_clones_equal (λ y h. h) ∙ ap (λ n. replicate n 0) c.len-count.ensures);
  readers = none_entered (λ (q : Proc). q.ins) c.args.net.now.procs (length c.args.net.now.chans) (some_procs c.requires.1) _ (c.in_ok-readers.ensures.items_if_clones_equal (λ y h. h) ∙ ap (λ n. replicate n 0) c.len-count.ensures);
}

pub mark-requires : goal.mark-requires
mark-requires c =
    let stands = get_is c.args.net.now.procs c.loop-p.p c.index-procs-p.result (subst (λ (xs : List Proc). c.loop-p.p < length xs) c.as_slice-procs.ensures c.loop-p-test.true) (c.index-procs-p.is ∙ ap (λ (xs : List Proc). get_or xs c.loop-p.p c.index-procs-p.result) c.as_slice-procs.ensures) in
    subst (λ n. AllByRecursion (λ d. d < n) c.as_slice.result.now) (sym c.loop-p.invariant.writers.long)
    (subst (AllByRecursion (λ d. d < length c.args.net.now.chans)) (sym c.as_slice.ensures) (outs_inside c.requires.1 c.loop-p.p c.index-procs-p.result stands))

pub mark-requires-in-loop-p : goal.mark-requires-in-loop-p
mark-requires-in-loop-p c =
    let stands = get_is c.args.net.now.procs c.loop-p.p c.index-procs-p.result (subst (λ (xs : List Proc). c.loop-p.p < length xs) c.as_slice-procs.ensures c.loop-p-test.true) (c.index-procs-p.is ∙ ap (λ (xs : List Proc). get_or xs c.loop-p.p c.index-procs-p.result) c.as_slice-procs.ensures) in
    subst (λ n. AllByRecursion (λ d. d < n) c.as_slice-in-loop-p.result.now) (sym c.loop-p.invariant.readers.long)
    (subst (AllByRecursion (λ d. d < length c.args.net.now.chans)) (sym c.as_slice-in-loop-p.ensures) (ins_inside c.requires.1 c.loop-p.p c.index-procs-p.result stands))

pub loop-p-preserved : goal.loop-p-preserved
loop-p-preserved c =
    let stands = get_is c.args.net.now.procs c.loop-p.p c.index-procs-p.result (subst (λ (xs : List Proc). c.loop-p.p < length xs) c.as_slice-procs.ensures c.loop-p-test.true) (c.index-procs-p.is ∙ ap (λ (xs : List Proc). get_or xs c.loop-p.p c.index-procs-p.result) c.as_slice-procs.ensures) in
    let there = subst (λ (xs : List Proc). c.loop-p.p < length xs) c.as_slice-procs.ensures c.loop-p-test.true in
    record {
      writers = entered_writers c.requires.1 c.loop-p.p c.index-procs-p.result stands _ c.loop-p.invariant.writers there _ (c.mark.ensures ∙ ap (λ cs. marked c.loop-p.writers.items cs c.loop-p.p) c.as_slice.ensures);
      readers = entered_readers c.requires.1 c.loop-p.p c.index-procs-p.result stands _ c.loop-p.invariant.readers there _ (c.mark-in-loop-p.ensures ∙ ap (λ cs. marked c.loop-p.readers.items cs c.loop-p.p) c.as_slice-in-loop-p.ensures);
    }

pub returns : goal.returns
returns c =
    let past = subst (λ (xs : List Proc). length xs ≤ c.loop-p.p) c.as_slice-procs.ensures c.loop-p-test.false in
    let high = subst (λ (xs : List Proc). c.loop-p.p ≤ length xs) c.as_slice-procs.ensures c.loop-p.auto.p-end in
    let whole : c.loop-p.p ≡ length c.args.net.now.procs = omega (arith, past, high) in
    all_entered c.args.net.now _ (c.in_ok-descriptors.ensures ∙ ap (map descriptor_of) c.as_slice-procs.ensures)
    (subst (λ n. Entered (λ (q : Proc). q.outs) c.args.net.now.procs (length c.args.net.now.chans) n c.loop-p.writers.items) whole c.loop-p.invariant.writers)
    (subst (λ n. Entered (λ (q : Proc). q.ins) c.args.net.now.procs (length c.args.net.now.chans) n c.loop-p.readers.items) whole c.loop-p.invariant.readers)
