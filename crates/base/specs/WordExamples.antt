-- Examples of document 01, example 9, and the numbers of a few bytes, from the definitions.
use Rattle.std.specs.Prelude.{◌≡◌, refl, [], ◌∷◌}
use Rattle.base.specs.Numbers.{number, bytes_of, number_at, sum_of, difference_of, product_of}

-- 4294967295 + 1 = 0; 0 − 1 = 4294967295; 65536 × 65536 = 0
sum_wraps : sum_of 4294967295 1 ≡ 0
sum_wraps = refl

difference_wraps : difference_of 0 1 ≡ 4294967295
difference_wraps = refl

product_wraps : product_of 65536 65536 ≡ 0
product_wraps = refl

-- 01 02 is 258, and 00 00 00 00 01 00 is 256
two_bytes : bytes_of 2 258 ≡ 1 ∷ 2 ∷ []
unfolding bytes_of
two_bytes = refl

six_bytes : number (0 ∷ 0 ∷ 0 ∷ 0 ∷ 1 ∷ 0 ∷ []) ≡ 256
unfolding number
six_bytes = refl

-- the largest word, and the largest number of eight bytes
word_bytes : bytes_of 4 4294967295 ≡ 255 ∷ 255 ∷ 255 ∷ 255 ∷ []
unfolding bytes_of
word_bytes = refl

eight_bytes : number (bytes_of 8 18446744073709551615) ≡ 18446744073709551615
unfolding number bytes_of
eight_bytes = refl

-- the gate count of document 01's P1, two bytes from its byte 5 on
gate_count_lem : number_at 2 (80 ∷ 76 ∷ 78 ∷ 0 ∷ 1 ∷ 0 ∷ 6 ∷ 0 ∷ 1 ∷ []) 5 ≡ 6
unfolding number
gate_count_lem = refl
