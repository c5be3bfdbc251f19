use Rattle.std.proofs.Common.{◌≡◌, ◌≤◌, ◌-◌, ◌∙◌, ℕ, List, length, drop, arith, sym, subst}
use Rattle.std.proofs.lemmas.List.{length-drop, length-take-le}
use Rattle.std.specs.List.{slice_range}
use Rattle.js_kind.specs.declared.words.Word.{Word}
use Rattle.js_kind.specs.Keywords.{key_of, IsOnlyWord}
use Rattle.js_kind.proofs.NameKeys.{AreBytes, are_bytes_from, are_bytes_to}
use Rattle.js_kind.proofs.WordTable.{too_long, other_key, other_length, other_end, long_word, short_word, same_end}
use Rattle.js_kind.proofs.keyword.match_keyword_between.Goals as goal

length_between : (text : List ℕ) (from to : ℕ) → from ≤ to → to ≤ length text
    → to - from ≡ length (slice_range text from to)
length_between text from to ordered within =
    sym (length-take-le (to - from) (drop from text) (omega (arith, length-drop from text)))

bytes_between : (text : List ℕ) (from to : ℕ) → AreBytes text → AreBytes (slice_range text from to)
bytes_between text from to are = are_bytes_to (drop from text) (to - from) (are_bytes_from text from are)

-- the entry at the place of the key is that at the place of the name
only_of : (key : ℕ) (name : List ℕ) (word : Word) → key ≡ key_of name → IsOnlyWord key word
    → IsOnlyWord (key_of name) word
only_of key name word is only = subst (λ k. IsOnlyWord k word) is only

pub returns-then-length-gt-LONGEST_WORD : goal.returns-then-length-gt-LONGEST_WORD
returns-then-length-gt-LONGEST_WORD c =
    let count = length_between c.args.text.now c.args.from c.args.to c.requires.ordered c.requires.within in
    too_long _ (omega (arith, count, c.if-length-gt-LONGEST_WORD.true))

pub returns-then-word-key : goal.returns-then-word-key
returns-then-word-key c =
    let key = c.key_between-key.ensures in
    other_key _ _ (only_of _ _ _ key c.word_of-word.ensures) (λ same. c.if-word-key.true (same ∙ sym key))

pub returns-then-word-length : goal.returns-then-word-length
returns-then-word-length c =
    let count = length_between c.args.text.now c.args.from c.args.to c.requires.ordered c.requires.within in
    other_length _ _ (only_of _ _ _ c.key_between-key.ensures c.word_of-word.ensures)
    (λ same. c.if-word-length.true (same ∙ sym count))

pub returns-then-length-le8 : goal.returns-then-length-le8
returns-then-length-le8 c =
    let key = c.key_between-key.ensures in
    let count = length_between c.args.text.now c.args.from c.args.to c.requires.ordered c.requires.within in
    let are = bytes_between c.args.text.now c.args.from c.args.to (λ k. (c.type_inv.text k).fits) in
    short_word _ _ (only_of _ _ _ key c.word_of-word.ensures) are (c.if-word-key.false ∙ key)
    (c.if-word-length.false ∙ count) (omega (arith, count, c.if-length-le8.true))

pub has_end_of-requires-clause-same : goal.has_end_of-requires-clause-same
has_end_of-requires-clause-same c =
    let count = length_between c.args.text.now c.args.from c.args.to c.requires.ordered c.requires.within in
    long_word _ _ (only_of _ _ _ c.key_between-key.ensures c.word_of-word.ensures) (c.if-word-length.false ∙ count)
    (omega (arith, count, c.if-length-le8.false))

pub returns-then-has_end_of : goal.returns-then-has_end_of
returns-then-has_end_of c =
    let key = c.key_between-key.ensures in
    let count = length_between c.args.text.now c.args.from c.args.to c.requires.ordered c.requires.within in
    let are = bytes_between c.args.text.now c.args.from c.args.to (λ k. (c.type_inv.text k).fits) in
    same_end _ _ (only_of _ _ _ key c.word_of-word.ensures) are (c.if-word-key.false ∙ key)
    (c.if-word-length.false ∙ count) (sym c.has_end_of.ensures ∙ c.if-has_end_of.true)

pub returns-else-has_end_of : goal.returns-else-has_end_of
returns-else-has_end_of c =
    other_end _ _ (only_of _ _ _ c.key_between-key.ensures c.word_of-word.ensures)
    (sym c.has_end_of.ensures ∙ c.if-has_end_of.false)
