-- The words of a text are what they are, so a text whose words are all picks is not refused.
use Rattle.std.proofs.Common.{◌≡◌, ℕ, ◌+◌, List, [], ◌∷◌, ◌++◌, count_by, Ok, Err, refl, sym, ap, ◌∙◌, subst}
use Rattle.p3l_sched.specs.declared.refusal.PickRefusal.{PickRefusal}
use Rattle.p3l_sched.specs.declared.refusal.PickRefusal.TheVariants as refusals
use Rattle.p3l_sched.specs.Picks.{AreGap, AreOfWord, AreRead, EndsWord, IsAtWord, IsFirstRefused, IsWord, Reads, is_feed, is_gap, pick_of}

-- a text begins with one gap
same_gap : (g w a h v b : List ℕ) → g ++ (w ++ a) ≡ h ++ (v ++ b) → AreGap g → IsWord w → AreGap h → IsWord v → (g ≡ h) × (w ++ a ≡ v ++ b)
same_gap [] w a [] v b e gap word other second = (refl, e)
same_gap [] [] a (y ∷ h) v b e gap word other second = absurd word
same_gap [] (x ∷ w) a (y ∷ h) v b e gap word other second = absurd (let here : x ≡ y = cc in let p = word.0 in let q = other.0 in let s = ap is_gap here in cc)
same_gap (x ∷ g) w a [] [] b e gap word other second = absurd second
same_gap (x ∷ g) w a [] (y ∷ v) b e gap word other second = absurd (let here : x ≡ y = cc in let p = gap.0 in let q = second.0 in let s = ap is_gap here in cc)
same_gap (x ∷ g) w a (y ∷ h) v b e gap word other second =
    let here : x ≡ y = cc in
    let later : g ++ (w ++ a) ≡ h ++ (v ++ b) = cc in
    let rest = same_gap g w a h v b later gap.1 word other.1 second in
    (let tail = rest.0 in cc, rest.1)

-- and then with one word
same_word : (w a v b : List ℕ) → w ++ a ≡ v ++ b → AreOfWord w → EndsWord a → AreOfWord v → EndsWord b → (w ≡ v) × (a ≡ b)
same_word [] a [] b e word ends second other = (refl, e)
same_word [] [] (y ∷ v) b e word ends second other = absurd cc
same_word [] (x ∷ a) (y ∷ v) b e word ends second other = absurd (let here : x ≡ y = cc in let q = second.0 in let s = ap is_gap here in cc)
same_word (x ∷ w) a [] [] e word ends second other = absurd cc
same_word (x ∷ w) a [] (y ∷ b) e word ends second other = absurd (let here : x ≡ y = cc in let p = word.0 in let s = ap is_gap here in cc)
same_word (x ∷ w) a (y ∷ v) b e word ends second other =
    let here : x ≡ y = cc in
    let later : w ++ a ≡ v ++ b = cc in
    let rest = same_word w a v b later word.1 ends second.1 other in
    (let tail = rest.0 in cc, rest.1)

of_word : (w : List ℕ) → IsWord w → AreOfWord w
of_word [] word = absurd word
of_word (x ∷ w) word = word

word_once : (text g w a h v b : List ℕ) → IsAtWord text g w a → IsAtWord text h v b → (g ≡ h) × (w ≡ v) × (a ≡ b)
word_once text g w a h v b one two =
    let gaps = same_gap g w a h v b (sym one.text_is ∙ two.text_is) one.are_gap one.is_word two.are_gap two.is_word in
    let words = same_word w a v b gaps.1 (of_word w one.is_word) one.ends (of_word v two.is_word) two.ends in
    (gaps.0, words.0, words.1)

-- a text that is all gap has no word
no_word : (text g w a : List ℕ) → AreGap text → IsAtWord text g w a → ⊥
no_word text g w a gap at = by g w (subst AreGap at.text_is gap) at.is_word
  where
    by : (g w : List ℕ) → AreGap (g ++ (w ++ a)) → IsWord w → ⊥
    by [] [] gap word = word
    by [] (x ∷ w) gap word = let p = gap.0 in let q = word.0 in absurd cc
    by (y ∷ g) w gap word = by g w gap.1 word

read_once : (count line : ℕ) (text : List ℕ) (picks : List ℕ) (last : ℕ) (rest : List ℕ) (others : List ℕ) (end : ℕ) (left g w a : List ℕ) (r : PickRefusal) →
    AreRead count line text picks last rest → AreGap rest → AreRead count line text others end left → IsAtWord left g w a → pick_of count (end + count_by is_feed g) w ≡ Err r → ⊥
read_once count line text [] last rest [] end left g w a r one gap two at refused =
    no_word left g w a (subst AreGap (sym one.1 ∙ two.1) gap) at
read_once count line text [] last rest (q ∷ qs) end left g w a r one gap two at refused =
    no_word text two.0 two.1 two.2 (subst AreGap (sym one.1) gap) two.3
read_once count line text (p ∷ ps) last rest [] end left g w a r one gap two at refused =
    let here : IsAtWord text g w a = subst (λ t. IsAtWord t g w a) (sym two.1) at in
    let same = word_once text one.0 one.1 one.2 g w a one.3 here in
    let picked : pick_of count (end + count_by is_feed g) w ≡ Ok p =
    subst (λ l. pick_of count (l + count_by is_feed g) w ≡ Ok p) two.0
    (subst (λ v. pick_of count (line + count_by is_feed g) v ≡ Ok p) same.1
    (subst (λ h. pick_of count (line + count_by is_feed h) one.1 ≡ Ok p) same.0 one.4)) in
    absurd cc
read_once count line text (p ∷ ps) last rest (q ∷ qs) end left g w a r one gap two at refused =
    let same = word_once text two.0 two.1 two.2 one.0 one.1 one.2 two.3 one.3 in
    let later : AreRead count (line + count_by is_feed one.0) two.2 qs end left = subst (λ h. AreRead count (line + count_by is_feed h) two.2 qs end left) same.0 two.5 in
    read_once count (line + count_by is_feed one.0) one.2 ps last rest qs end left g w a r one.5 gap (subst (λ t. AreRead count (line + count_by is_feed one.0) t qs end left) same.2 later) at refused

-- a text is read or refused, and not both
pub reads_once : (text : List ℕ) (count : ℕ) (picks : List ℕ) (r : PickRefusal) → Reads text count (Ok picks) → IsFirstRefused text count r → ⊥
reads_once text count picks r read refused =
    read_once count 1 text picks read.0 read.1 refused.picks refused.line refused.rest refused.gap refused.word refused.after r read.2 read.3 refused.before refused.at refused.is_refused

-- picks that are read are not refused
pub read_or_refused : (text : List ℕ) (count : ℕ) (read : List ℕ) (r : PickRefusal) → (r ≡ refusals.NoMemory → ⊥) → Reads text count (Ok read) → Reads text count (Err r) → ⊥
read_or_refused text count read refusals.NoMemory some one two = some refl
read_or_refused text count read (refusals.BadPick line) some one two = reads_once text count read (refusals.BadPick line) one two
read_or_refused text count read (refusals.NoSuchProcess line pick of_count) some one two = reads_once text count read (refusals.NoSuchProcess line pick of_count) one two

-- and they are read as one list
read_alike : (count line : ℕ) (text : List ℕ) (picks : List ℕ) (last : ℕ) (rest : List ℕ) (others : List ℕ) (end : ℕ) (left : List ℕ) →
    AreRead count line text picks last rest → AreGap rest → AreRead count line text others end left → AreGap left → picks ≡ others
read_alike count line text [] last rest [] end left one gap two other = refl
read_alike count line text [] last rest (q ∷ qs) end left one gap two other = absurd (no_word text two.0 two.1 two.2 (subst AreGap (sym one.1) gap) two.3)
read_alike count line text (p ∷ ps) last rest [] end left one gap two other = absurd (no_word text one.0 one.1 one.2 (subst AreGap (sym two.1) other) one.3)
read_alike count line text (p ∷ ps) last rest (q ∷ qs) end left one gap two other =
    let same = word_once text two.0 two.1 two.2 one.0 one.1 one.2 two.3 one.3 in
    let picked : pick_of count (line + count_by is_feed one.0) one.1 ≡ Ok q =
    subst (λ v. pick_of count (line + count_by is_feed one.0) v ≡ Ok q) same.1
    (subst (λ h. pick_of count (line + count_by is_feed h) two.1 ≡ Ok q) same.0 two.4) in
    let first : p ≡ q = (let e = sym one.4 ∙ picked in cc) in
    let later : AreRead count (line + count_by is_feed one.0) two.2 qs end left = subst (λ h. AreRead count (line + count_by is_feed h) two.2 qs end left) same.0 two.5 in
    let tail = read_alike count (line + count_by is_feed one.0) one.2 ps last rest qs end left one.5 gap (subst (λ t. AreRead count (line + count_by is_feed one.0) t qs end left) same.2 later) other in
    cc

pub picks_once : (text : List ℕ) (count : ℕ) (picks others : List ℕ) → Reads text count (Ok picks) → Reads text count (Ok others) → picks ≡ others
picks_once text count picks others one two = read_alike count 1 text picks one.0 one.1 others two.0 two.1 one.2 one.3 two.2 two.3
