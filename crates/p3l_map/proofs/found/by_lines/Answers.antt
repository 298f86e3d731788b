use Rattle.std.proofs.Common.{◌≡◌, ◌%◌, ◌++◌, ℕ, List, [], length, map, subst, sym, ap, ap₂, ◌∙◌, arith}
use Rattle.std.proofs.lemmas.Bool.{false≢true}
use Rattle.std.proofs.lemmas.List.{length-map, map-append}
use Rattle.p3l_base.specs.Memory.{IfGiven}
use Rattle.p3l_firing.specs.Shot.{token_of}
use Rattle.p3l_firing.specs.declared.token.Token.{Token}
use Rattle.p3l_map.specs.Map.{View}
use Rattle.p3l_template.specs.Finding.{bare, bares}
use Rattle.p3l_map.specs.Groups.{begun, by_turns, are_in_turn, made_alike}
use Rattle.p3l_map.specs.MapKind.{line_at}
use Rattle.p3l_template.specs.laws.BareLaw.{bares-length}
use Rattle.p3l_map.proofs.MapSteps.{none_found, gathered_count, found_in_groups, made_alike-bare}
use Rattle.p3l_map.proofs.found.by_lines.Goals as goal

-- the pieces that Gather holds, then those on the lines
module _ (number : ℕ) (lines : List (List Token)) (held sending none first : List Token) (start : none ≡ []) (one : first ≡ none ++ bares held) where
  first_is : first ≡ bares held
  first_is = one ∙ ap (λ z. z ++ bares held) start

  pub first_count : length first ≡ length held
  first_count = ap length first_is ∙ bares-length held

  module _ (second : List Token) (two : second ≡ first ++ bares (by_turns number lines (length first))) where
    pub second_is : second ≡ bares (held ++ by_turns number lines (length held))
    second_is =
        two ∙ ap₂ (λ p k. p ++ bares (by_turns number lines k)) first_is first_count
        ∙ sym (map-append bare held (by_turns number lines (length held)))

    pub third_is : (third : List Token) → third ≡ second ++ bares sending →
        third ≡ bares ((held ++ by_turns number lines (length held)) ++ sending)
    third_is third e =
        e ∙ ap (λ z. z ++ bares sending) second_is ∙ sym (map-append bare (held ++ by_turns number lines (length held)) sending)

pub returns-then-held-number : goal.returns-then-held-number
returns-then-held-number c = none_found c.args.number (length c.args.lines.now) _ (λ k. omega (arith, k.full, length-map c.args.held.now token_of, c.if-held-number.true))

pub returns-then-not-is_scattering : goal.returns-then-not-is_scattering
returns-then-not-is_scattering c =
    none_found c.args.number (length c.args.lines.now) _
    (λ k. false≢true (sym (sym (c.is_scattering.ensures (length c.args.lines.now)) ∙ c.if-not-is_scattering.true) ∙ k.scatter))

pub returns-then-not-branch : goal.returns-then-not-branch
returns-then-not-branch c =
    let count = first_count c.args.number c.args.lines.now (map token_of c.args.held.now) (map token_of c.args.sending.now) c.new-pieces.result c.add_saved.new.to
    c.new-pieces.ensures c.in_ok-add_saved.ensures in
    none_found c.args.number (length c.args.lines.now) _
    (λ k. false≢true (sym c.if-not-branch.true ∙ c.in_ok-add_by_turns.ensures.all ∙ ap (are_in_turn c.args.number c.args.lines.now) count ∙ k.in_turn))

pub returns-then-len-number : goal.returns-then-len-number
returns-then-len-number c =
    let v : View = record {
      lines = line_at c.args.lines.now;
      held = map token_of c.args.held.now;
      sending = map token_of c.args.sending.now;
      sent = c.args.sent;
      input = [];
      output = [];
    } in
    let second = second_is c.args.number c.args.lines.now (map token_of c.args.held.now) (map token_of c.args.sending.now) c.new-pieces.result c.add_saved.new.to
    c.new-pieces.ensures c.in_ok-add_saved.ensures c.add_by_turns.new.list (c.in_ok-add_by_turns.ensures.list c.if-not-branch.false) in
    let count = c.len.ensures ∙ ap length second ∙ bares-length _ ∙ gathered_count c.args.number (length c.args.lines.now) v in
    none_found c.args.number (length c.args.lines.now) v
    (λ k. absurd (c.if-len-number.true (ap (λ m. m % c.args.number) count ∙ k.place ∙ sym c.next_piece.ensures)))

pub returns : goal.returns
returns c =
    let n = length c.args.lines.now in
    let v : View = record {
      lines = line_at c.args.lines.now;
      held = map token_of c.args.held.now;
      sending = map token_of c.args.sending.now;
      sent = c.args.sent;
      input = [];
      output = [];
    } in
    let held : List Token = map token_of c.args.held.now in
    let gathered : List Token = held ++ by_turns c.args.number c.args.lines.now (length held) in
    let first = first_count c.args.number c.args.lines.now (map token_of c.args.held.now) (map token_of c.args.sending.now) c.new-pieces.result c.add_saved.new.to
    c.new-pieces.ensures c.in_ok-add_saved.ensures in
    let two = c.in_ok-add_by_turns.ensures.list c.if-not-branch.false in
    let second = second_is c.args.number c.args.lines.now (map token_of c.args.held.now) (map token_of c.args.sending.now) c.new-pieces.result c.add_saved.new.to
    c.new-pieces.ensures c.in_ok-add_saved.ensures c.add_by_turns.new.list two in
    let third = third_is c.args.number c.args.lines.now (map token_of c.args.held.now) (map token_of c.args.sending.now) c.new-pieces.result c.add_saved.new.to
    c.new-pieces.ensures c.in_ok-add_saved.ensures c.add_by_turns.new.list two c.add_saved-2.new.to c.in_ok-add_saved-2.ensures in
    let count = c.len.ensures ∙ ap length second ∙ bares-length gathered ∙ gathered_count c.args.number n v in
    let place = ap (λ m. m % c.args.number) (sym count) ∙ c.if-len-number.false ∙ c.next_piece.ensures in
    let in_turn = sym (c.in_ok-add_by_turns.ensures.all ∙ ap (are_in_turn c.args.number c.args.lines.now) first) ∙ c.if-not-branch.false in
    let scatter = sym (c.is_scattering.ensures n) ∙ c.if-not-is_scattering.false in
    let path = ap (λ z. made_alike (begun c.args.number z)) (c.as_slice.ensures ∙ third)
    ∙ made_alike-bare c.args.number (gathered ++ map token_of c.args.sending.now)
    ∙ found_in_groups c.args.number n v (omega (arith, c.requires.number)) (omega (arith, length-map c.args.held.now token_of, c.if-held-number.false)) place in_turn scatter in
    subst (λ z. IfGiven c.firsts_of_groups.result (λ pending. pending ≡ z)) path c.firsts_of_groups.ensures
