-- Texts whose units stand for themselves.
use Rattle.std.proofs.Common.{◌≡◌, ℕ, ◌<◌, Bool, true, false, cond, List, [], ◌∷◌, ◌++◌, codes, refl, sym, ap, ◌∙◌}
use Rattle.std.proofs.Common.{append-nil, arith}
use Rattle.std.proofs.lemmas.Bool.{lt-ltb}
use Rattle.std.proofs.lemmas.Str.{encode_ascii, encodes-chars}
use Rattle.std.specs.Char.Escape.{encode_utf16}
use Rattle.std.specs.List.{flat_map}
use Rattle.std.specs.Str.{IsUtf8, chars, encode_utf8_all}
use Rattle.js_source.specs.Runs.{IsRun, TellsClass}
use Rattle.js_lex_tool.specs.Units.{is_printed_as_itself, four_digits, unit_text, all_units_text, units_text}
use Rattle.js_lex_tool.specs.Units.{text_in_units}

-- a character has one unit, where that is below 2 ^ 16
one_unit : (c : ℕ) → c < 0x10000 → encode_utf16 c ≡ c ∷ []
one_unit c h = rw (lt-ltb c 0x10000 h) refl

-- an ASCII character that stands for itself
character_itself : (c : ℕ) → c < 128 → is_printed_as_itself c ≡ true → units_text c ≡ c ∷ []
character_itself c small h =
    ap all_units_text (one_unit c (omega (arith, small)))
    ∙ append-nil (unit_text c)
    ∙ ap (λ (t : Bool). cond t (c ∷ []) (codes "\\u" ++ four_digits false c)) h

module _ (table : List Bool) (tells : TellsClass is_printed_as_itself table) where
  each_itself : (run : List ℕ) → IsRun table run → flat_map units_text run ≡ run
  each_itself [] all = refl
  each_itself (c ∷ cs) all =
      ap (λ us. us ++ flat_map units_text cs) (character_itself c all.0 (sym (tells.tells c all.0) ∙ all.1))
      ∙ ap (λ us. c ∷ us) (each_itself cs all.2)

  bytes_of : (run : List ℕ) → IsRun table run → encode_utf8_all run ≡ run
  bytes_of [] all = refl
  bytes_of (c ∷ cs) all =
      ap (λ bs. bs ++ encode_utf8_all cs) (encode_ascii c all.0) ∙ ap (λ bs. c ∷ bs) (bytes_of cs all.2)

  -- A text whose characters all stand for themselves is written as it is.
  pub text_itself : (text run : List ℕ) → IsUtf8 text → chars text ≡ run → IsRun table run → text_in_units text ≡ text
  text_itself text run u e all =
      ap (flat_map units_text) e ∙ each_itself run all ∙ sym (bytes_of run all) ∙ sym (ap encode_utf8_all e)
      ∙ encodes-chars text u
