-- What is known behind a last token that is not of a notable kind.
use Rattle.std.proofs.Common.{◌≡◌, ◌==◌, Bool, true, false, List, ◌∷◌, refl, sym, ap, Option, Some, None}
use Rattle.std.proofs.lemmas.Bool.{or_parts}
use Rattle.js_kind.specs.Kinds.{is_one_of, number}
use Rattle.js_kind.specs.Predicates.{is_eof}
use Rattle.js_kind.specs.declared.kind.Kind.{Kind}
use Rattle.js_kind.specs.declared.kind.Kind.TheVariants.{Eof, LCurly, RCurly, TemplateHead, TemplateTail}
use Rattle.js_grammar.specs.ReLexed.{again_kinds}
use Rattle.js_grammar.specs.declared.goal.Goal.TheVariants.{RegularExpression}
use Rattle.js_session.specs.declared.command.Command.TheVariants.{Next}
use Rattle.js_auto.specs.declared.brace.Brace.{Brace}
use Rattle.js_auto.specs.declared.brace.BraceEffect.TheVariants.{Leaves}
use Rattle.js_auto.specs.Braces.{after_effect, effect_of, open_behind}
use Rattle.js_auto.specs.Choice.{Chooser, choice_behind, kept_last}
use Rattle.js_auto.specs.Notable.{is_notable, notable_kinds}

-- the kinds of tokens that are read again as regular expressions
abbrev slashes : List Kind
slashes = again_kinds RegularExpression

-- what is known of a kind that is not notable
record IsUnnotable (kind : Kind) : Type 0 where
  eof : (number kind == number Eof) ≡ false
  left_curly : (number kind == number LCurly) ≡ false
  right_curly : (number kind == number RCurly) ≡ false
  head : (number kind == number TemplateHead) ≡ false
  tail : (number kind == number TemplateTail) ≡ false
  again : is_one_of slashes kind ≡ false

-- A kind that is none of a list is not the first of them, and none of the others.
not_first : (kind other : Kind) (kinds : List Kind) → is_one_of (other ∷ kinds) kind ≡ false
    → ((number kind == number other) ≡ false) × (is_one_of kinds kind ≡ false)
not_first kind other kinds none = or_parts (number kind == number other) (is_one_of kinds kind) none

is_unnotable : (kind : Kind) → is_one_of notable_kinds kind ≡ false → IsUnnotable kind
is_unnotable kind none =
    let eof = not_first kind Eof (LCurly ∷ RCurly ∷ TemplateHead ∷ TemplateTail ∷ slashes) none in
    let left = not_first kind LCurly (RCurly ∷ TemplateHead ∷ TemplateTail ∷ slashes) eof.1 in
    let right = not_first kind RCurly (TemplateHead ∷ TemplateTail ∷ slashes) left.1 in
    let head = not_first kind TemplateHead (TemplateTail ∷ slashes) right.1 in
    let tail = not_first kind TemplateTail slashes head.1 in
    record {
      eof = eof.0;
      left_curly = left.0;
      right_curly = right.0;
      head = head.0;
      tail = tail.0;
      again = tail.1;
    }

no_effect : (kind : Kind) → IsUnnotable kind → effect_of kind ≡ Leaves
unfolding effect_of
no_effect kind is = rw (is.left_curly, is.head, is.right_curly, is.tail) refl

-- Behind a last token that is not notable the braces are those before it.
leaves_braces : (last : Option Kind) (stack : List Brace) → is_notable last ≡ false → open_behind last stack ≡ stack
leaves_braces None stack plain = refl
leaves_braces (Some kind) stack plain = ap (λ effect. after_effect effect stack) (no_effect kind
    (is_unnotable kind plain))

-- Such a token changes nothing of what a chooser keeps of those before it.
pub leaves_chooser : (c : Chooser) → is_notable c.last ≡ false → c ≡ record c { stack = open_behind c.last c.stack }
leaves_chooser c plain = ap (λ stack. record c { stack = stack }) (sym (leaves_braces c.last c.stack plain))

reads_behind : (stack : List Brace) (before : Kind) (kind : Kind) → IsUnnotable kind
    → choice_behind stack before (Some kind) ≡ Some Next
unfolding is_eof
reads_behind stack before kind is = rw (is.eof, is.right_curly, is.again) refl

-- A last token that may be none is not notable where its kind is not.
pub kept_plain : (has_last : Bool) (kind : Kind) → is_one_of notable_kinds kind ≡ false
    → is_notable (kept_last has_last kind) ≡ false
kept_plain true kind plain = plain
kept_plain false kind plain = refl

-- Behind such a token the next one is read.
pub reads_on : (stack : List Brace) (before : Kind) (last : Option Kind) → is_notable last ≡ false
    → choice_behind stack before last ≡ Some Next
reads_on stack before None plain = refl
reads_on stack before (Some kind) plain = reads_behind stack before kind (is_unnotable kind plain)
