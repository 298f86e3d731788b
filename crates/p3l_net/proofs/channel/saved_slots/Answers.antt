use Rattle.std.proofs.Common.{◌≡◌, ◌+◌, [], ◌∷◌, ◌++◌, length, map, drop, List, sym, ap, ap₂, ◌∙◌, arith}
use Rattle.std.proofs.Math.Seq.{drop-length}
use Rattle.std.proofs.lemmas.List.{append-nil}
use Rattle.p3l_firing.specs.declared.shot.SavedToken.{SavedToken}
use Rattle.p3l_firing.specs.Shot.{saved_token}
use Rattle.p3l_net.specs.declared.channel.Slot.{Slot}
use Rattle.p3l_net.specs.Rings.{tokens_of}
use Rattle.p3l_net.proofs.Rings.{few_lists, saved-more, lists-more}
use Rattle.p3l_net.proofs.channel.saved_slots.Goals as goal

pub saved_slot-requires : goal.saved_slot-requires
saved_slot-requires c =
    let lists = c.loop-k.invariant.lists in
    let more = lists-more c.args.slots.now.items c.loop-k.k c.nth-slot.result.now c.nth-slot.ensures in
    omega (arith, lists, more)

pub overflow_add-next : goal.overflow_add-next
overflow_add-next c =
    let lists = c.loop-k.invariant.lists in
    let more = lists-more c.args.slots.now.items c.loop-k.k c.nth-slot.result.now c.nth-slot.ensures in
    let few = few_lists c.args.slots.now.items in
    let long = c.len-k-end.ensures.len in
    let within = c.len-k-end.ensures.within in
    let all = c.requires in
    let one = c.lists.ensures in
    let most = within.0 in
    let small = within.1 in
    omega (arith, lists, more, few, long, most, small, all, one)

pub loop-k-preserved : goal.loop-k-preserved
loop-k-preserved c =
    let slots : List Slot = c.args.slots.now.items in
    let tags = c.args.tags.now.items in
    let slot : Slot = c.nth-slot.result.now in
    let lists = c.loop-k.invariant.lists in
    let more = lists-more slots c.loop-k.k slot c.nth-slot.ensures in
    let one = c.lists.ensures in
    record {
      tokens =
          ap₂ (λ (saved : List SavedToken) n. saved ++ map saved_token (tokens_of (drop (c.loop-k.k + 1) slots) (drop (c.loop-k.next + n) tags)))
          (c.in_ok-push.ensures.ok ∙ ap (λ x. c.loop-k.saved ++ x ∷ []) c.in_ok-saved_slot.ensures) one
          ∙ saved-more slots tags c.loop-k.k c.loop-k.next slot c.loop-k.saved c.nth-slot.ensures
          ∙ c.loop-k.invariant.tokens;
      lists = omega (arith, lists, more, one);
    }

pub returns : goal.returns
unfolding tokens_of
returns c =
    let slots : List Slot = c.args.slots.now.items in
    let long = c.len-k-end.ensures.len in
    let least = c.loop-k-test.false in
    let most = c.loop-k.auto.k-end in
    let ends : c.loop-k.k ≡ length slots = omega (arith, long, least, most) in
    sym (append-nil c.loop-k.saved)
    ∙ ap (λ (xs : List Slot). c.loop-k.saved ++ map saved_token (tokens_of xs (drop c.loop-k.next c.args.tags.now.items))) (sym (ap (λ n. drop n slots) ends ∙ drop-length slots))
    ∙ c.loop-k.invariant.tokens
