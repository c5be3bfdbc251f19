-- The kinds of tokens that change what the choice of goals does next.
use Rattle.std.specs.Prelude.{Bool, false, List, ◌∷◌, Option, Some, None}
use Rattle.js_kind.specs.Kinds.{is_one_of}
use Rattle.js_kind.specs.declared.kind.Kind.{Kind}
use Rattle.js_kind.specs.declared.kind.Kind.TheVariants.{Eof, LCurly, RCurly, TemplateHead, TemplateTail}
use Rattle.js_grammar.specs.ReLexed.{again_kinds}
use Rattle.js_grammar.specs.declared.goal.Goal.TheVariants.{RegularExpression}

-- the kinds of tokens that open or close braces, and of those behind which another command than `Next` may come
abbrev pub notable_kinds : List Kind
notable_kinds = Eof ∷ LCurly ∷ RCurly ∷ TemplateHead ∷ TemplateTail ∷ again_kinds RegularExpression

-- the last token, if there is one, is of such a kind
abbrev pub is_notable : Option Kind → Bool
is_notable None = false
is_notable (Some kind) = is_one_of notable_kinds kind
