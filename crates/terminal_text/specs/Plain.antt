-- Text from outside as it is printed: no character of it steers a terminal.
use Rattle.std.specs.Prelude.{◌≡◌, ℕ, ◌≤◌, List, [], ◌∷◌, Any, All, encode_utf8_all}

-- a character lies between two, both among them
abbrev pub IsBetween : ℕ → ℕ × ℕ → Type 0
IsBetween c range = (range.0 ≤ c) × (c ≤ range.1)

-- Characters that steer a terminal, or that turn the direction of the text or can't be seen, as Unicode names them:
-- controls; the soft hyphen; the Arabic letter mark; spaces and joiners of no width and marks of direction;
-- separators of lines and paragraphs, embeddings and overrides; invisible operators and isolates; the byte order
-- mark; annotations; tags
abbrev pub steering_ranges : List (ℕ × ℕ)
steering_ranges =
    (0, 0x1F) ∷ (0x7F, 0x9F) ∷ (0xAD, 0xAD) ∷ (0x61C, 0x61C) ∷ (0x200B, 0x200F) ∷ (0x2028, 0x202E)
    ∷ (0x2060, 0x206F) ∷ (0xFEFF, 0xFEFF) ∷ (0xFFF9, 0xFFFB) ∷ (0xE0000, 0xE007F) ∷ []

-- a character stands for itself on a terminal
abbrev pub IsPlain : ℕ → Type 0
IsPlain c = Any (IsBetween c) steering_ranges → ⊥

-- a text in which each character stands for itself
abbrev pub IsPlainText : List ℕ → Type 0
IsPlainText bytes = (characters : List ℕ) × (encode_utf8_all characters ≡ bytes) × All IsPlain characters
