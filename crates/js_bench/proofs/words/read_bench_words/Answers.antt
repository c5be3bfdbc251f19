use Rattle.std.proofs.Common.{◌≡◌, ◌<◌, List, [], ◌∷◌, length, refl, arith, None, String}
use Rattle.std.specs.declared.alloc.Global.{Global}
use Rattle.js_bench.specs.Words.{bench_line_of}
use Rattle.js_bench.proofs.words.read_bench_words.Goals as goal

-- fewer than three words are no line
too_few : (words : List (String Global)) → length words < 3 → None ≡ bench_line_of words
too_few [] few = refl
too_few (source_type ∷ []) few = refl
too_few (source_type ∷ kept ∷ []) few = refl
too_few (source_type ∷ kept ∷ passes ∷ words) few = absurd (omega (arith, few))

pub returns-in_default : goal.returns-in_default
returns-in_default c = too_few c.args.words.now.items (omega (arith, c.in_default.len_below, c.as_slice.ensures.len))
