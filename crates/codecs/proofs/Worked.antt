-- Texts and bytes of each encoding, worked out.
use Rattle.std.proofs.Common.{◌≡◌, [], ◌∷◌, refl}
use Rattle.std.specs.Char.Utf16.{utf16_chars}
use Rattle.bstr.specs.Utf8.{pieces_from}
use Rattle.machine.specs.declared.reads.Encoding.TheVariants.{Utf8, Utf16Le, Utf16Be, Latin1}
use Rattle.machine.specs.Encodings.{encode}
use Rattle.codecs.specs.Decoding.{decoded}

-- U+00E9 and U+1F600, of two units
pub written_utf8 : encode Utf8 (0xE9 ∷ 0xD83D ∷ 0xDE00 ∷ []) ≡ 0xC3 ∷ 0xA9 ∷ 0xF0 ∷ 0x9F ∷ 0x98 ∷ 0x80 ∷ []
unfolding utf16_chars lib.Utf8.encode
written_utf8 = refl

pub written_low_first : encode Utf16Le (0xD83D ∷ 0xDE00 ∷ []) ≡ 0x3D ∷ 0xD8 ∷ 0x00 ∷ 0xDE ∷ []
written_low_first = refl

-- a character above U+00FF is one question mark
pub written_latin1 : encode Latin1 (0xE9 ∷ 0x100 ∷ 0xD83D ∷ 0xDE00 ∷ []) ≡ 0xE9 ∷ 63 ∷ 63 ∷ []
unfolding utf16_chars
written_latin1 = refl

-- three bytes of a character of four are one piece, and each byte of a surrogate is one
pub read_utf8 : decoded Utf8 (0xF0 ∷ 0x9F ∷ 0x98 ∷ 0x41 ∷ 0xED ∷ 0xA0 ∷ 0x80 ∷ []) ≡ 0xFFFD ∷ 0x41 ∷ 0xFFFD ∷ 0xFFFD ∷ 0xFFFD ∷ []
unfolding pieces_from
read_utf8 = refl

-- a high surrogate without its partner, a pair, and an odd byte
pub read_high_first : decoded Utf16Be (0xD8 ∷ 0x3D ∷ 0xD8 ∷ 0x3D ∷ 0xDE ∷ 0x00 ∷ 0x41 ∷ []) ≡ 0xFFFD ∷ 0xD83D ∷ 0xDE00 ∷ 0xFFFD ∷ []
unfolding utf16_chars
read_high_first = refl
