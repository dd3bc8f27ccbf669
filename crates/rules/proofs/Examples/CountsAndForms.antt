-- Examples: CountsAndForms. Each holds by computation; the answers are those of the reading in tests/reading.
-- Written by tests/examples from tests/reading/examples.txt.
use mathlib.Core.Path.{◌≡◌, refl}
use mathlib.Core.Bool.{Bool, true, false}
use mathlib.Core.List.{List, [], ◌∷◌, map}
use Prim.Native.Nat.{ℕ}
use lib.IntN.{ℤ, pos, negsuc}
use Rattle.std.specs.declared.cmp.Ordering.{Ordering}
use Rattle.std.specs.declared.cmp.Ordering.TheVariants.{Less, Equal, Greater}
use Rattle.rules.specs.Refusals.{given, refused}
use Rattle.rules.specs.Endings.{found, nothing}
use Rattle.rules.proofs.Examples.Asked.{nums, ask_nnz, ask_min_rank, ask_eq_nonzeros, ask_eq_nonzeros_and_deps, ask_to_dense, ask_new_empty, ask_new_scalar, ask_dense, ask_diagonal, ask_sparse, ask_to_data_layout}

-- nnz_call: answered
e1 : ask_nnz (nums (0 ∷ 0 ∷ 0 ∷ 0 ∷ 0 ∷ 0 ∷ [])) ≡ given 1
unfolding ask_nnz
e1 = refl

e2 : ask_nnz (nums (1 ∷ 0 ∷ 1 ∷ 2 ∷ 0 ∷ 0 ∷ 0 ∷ [])) ≡ given 2
unfolding ask_nnz
e2 = refl

e3 : ask_nnz (nums (0 ∷ 2 ∷ 2 ∷ 256 ∷ 256 ∷ 0 ∷ 0 ∷ 0 ∷ [])) ≡ given 65536
unfolding ask_nnz
e3 = refl

-- nnz_call: refused 1
e4 : ask_nnz (nums (0 ∷ 0 ∷ 5 ∷ [])) ≡ refused 1
unfolding ask_nnz
e4 = refl

-- nnz_call: refused 3
e5 : ask_nnz [] ≡ refused 3
unfolding ask_nnz
e5 = refl

e6 : ask_nnz (nums (0 ∷ 4 ∷ 4 ∷ 3 ∷ [])) ≡ refused 3
unfolding ask_nnz
e6 = refl

-- min_rank_call: answered
e7 : ask_min_rank (nums (1 ∷ 0 ∷ 1 ∷ 1 ∷ 0 ∷ 0 ∷ 0 ∷ [])) ≡ given 0
unfolding ask_min_rank
e7 = refl

e8 : ask_min_rank (nums (1 ∷ 0 ∷ 2 ∷ 2 ∷ 2 ∷ 0 ∷ 0 ∷ 0 ∷ [])) ≡ given 2
unfolding ask_min_rank
e8 = refl

-- min_rank_call: refused 3
e9 : ask_min_rank [] ≡ refused 3
unfolding ask_min_rank
e9 = refl

-- eq_nonzeros_call: answered
e10 : ask_eq_nonzeros (nums (2 ∷ 0 ∷ 0 ∷ 1 ∷ 0 ∷ 0 ∷ [])) (nums (2 ∷ 0 ∷ 0 ∷ 0 ∷ 0 ∷ 0 ∷ [])) ≡ given false
unfolding ask_eq_nonzeros
e10 = refl

e11 : ask_eq_nonzeros (nums (2 ∷ 0 ∷ 0 ∷ 1 ∷ 0 ∷ 0 ∷ [])) (nums (2 ∷ 0 ∷ 0 ∷ 1 ∷ 0 ∷ 0 ∷ [])) ≡ given true
unfolding ask_eq_nonzeros
e11 = refl

-- eq_nonzeros_call: refused 1
e12 : ask_eq_nonzeros [] (nums (0 ∷ 0 ∷ 5 ∷ [])) ≡ refused 1
unfolding ask_eq_nonzeros
e12 = refl

e13 : ask_eq_nonzeros (nums (0 ∷ 0 ∷ 5 ∷ [])) [] ≡ refused 1
unfolding ask_eq_nonzeros
e13 = refl

-- eq_nonzeros_call: refused 3
e14 : ask_eq_nonzeros (nums (1 ∷ 0 ∷ 1 ∷ 1 ∷ 0 ∷ 0 ∷ 0 ∷ [])) [] ≡ refused 3
unfolding ask_eq_nonzeros
e14 = refl

-- eq_nonzeros_and_deps_call: answered
e15 : ask_eq_nonzeros_and_deps (nums (2 ∷ 0 ∷ 0 ∷ 1 ∷ 0 ∷ 0 ∷ [])) (nums (2 ∷ 0 ∷ 0 ∷ 0 ∷ 0 ∷ 0 ∷ [])) ≡ given false
unfolding ask_eq_nonzeros_and_deps
e15 = refl

e16 : ask_eq_nonzeros_and_deps (nums (2 ∷ 0 ∷ 0 ∷ 1 ∷ 0 ∷ 0 ∷ [])) (nums (2 ∷ 0 ∷ 0 ∷ 1 ∷ 0 ∷ 0 ∷ [])) ≡ given true
unfolding ask_eq_nonzeros_and_deps
e16 = refl

-- eq_nonzeros_and_deps_call: refused 1
e17 : ask_eq_nonzeros_and_deps [] (nums (0 ∷ 0 ∷ 5 ∷ [])) ≡ refused 1
unfolding ask_eq_nonzeros_and_deps
e17 = refl

e18 : ask_eq_nonzeros_and_deps (nums (0 ∷ 0 ∷ 5 ∷ [])) [] ≡ refused 1
unfolding ask_eq_nonzeros_and_deps
e18 = refl

-- eq_nonzeros_and_deps_call: refused 3
e19 : ask_eq_nonzeros_and_deps (nums (1 ∷ 0 ∷ 1 ∷ 1 ∷ 0 ∷ 0 ∷ 0 ∷ [])) [] ≡ refused 3
unfolding ask_eq_nonzeros_and_deps
e19 = refl

-- to_dense_call: answered
e20 : ask_to_dense (nums (0 ∷ 0 ∷ 0 ∷ 0 ∷ 0 ∷ 0 ∷ [])) 1802 ≡ given (nums (0 ∷ 0 ∷ 0 ∷ 0 ∷ 0 ∷ 0 ∷ []))
unfolding ask_to_dense
e20 = refl

e21 : ask_to_dense (nums (2 ∷ 0 ∷ 0 ∷ 1 ∷ 0 ∷ 0 ∷ [])) 1802 ≡ given (nums (0 ∷ 0 ∷ 0 ∷ 0 ∷ 0 ∷ 0 ∷ []))
unfolding ask_to_dense
e21 = refl

-- to_dense_call: refused 1
e22 : ask_to_dense (nums (0 ∷ 0 ∷ 5 ∷ [])) 0 ≡ refused 1
unfolding ask_to_dense
e22 = refl

e23 : ask_to_dense (nums (1 ∷ 0 ∷ 5 ∷ 1 ∷ 0 ∷ 0 ∷ 0 ∷ [])) 1802 ≡ refused 1
unfolding ask_to_dense
e23 = refl

-- to_dense_call: refused 2
e24 : ask_to_dense [] 0 ≡ refused 2
unfolding ask_to_dense
e24 = refl

-- to_dense_call: refused 3
e25 : ask_to_dense [] 1802 ≡ refused 3
unfolding ask_to_dense
e25 = refl

-- new_empty_call: answered
e26 : ask_new_empty (pos 0) 2000 ≡ given (nums (0 ∷ 0 ∷ 0 ∷ 0 ∷ 0 ∷ 0 ∷ []))
unfolding ask_new_empty
e26 = refl

e27 : ask_new_empty (pos 1) 1802 ≡ given (nums (0 ∷ 1 ∷ 1 ∷ 0 ∷ 0 ∷ 0 ∷ 0 ∷ []))
unfolding ask_new_empty
e27 = refl

-- new_empty_call: refused 1
e28 : ask_new_empty (pos 5) 0 ≡ refused 1
unfolding ask_new_empty
e28 = refl

e29 : ask_new_empty (pos 2147483647) 0 ≡ refused 1
unfolding ask_new_empty
e29 = refl

-- new_empty_call: refused 2
e30 : ask_new_empty (pos 4) 0 ≡ refused 2
unfolding ask_new_empty
e30 = refl

e31 : ask_new_empty (negsuc 0) 0 ≡ refused 2
unfolding ask_new_empty
e31 = refl

-- new_empty_call: refused 5
e32 : ask_new_empty (negsuc 0) 1802 ≡ refused 5
unfolding ask_new_empty
e32 = refl

e33 : ask_new_empty (negsuc 2147483647) 1803 ≡ refused 5
unfolding ask_new_empty
e33 = refl

-- new_scalar_call: answered
e34 : ask_new_scalar 1802 ≡ given (nums (0 ∷ 0 ∷ 0 ∷ 0 ∷ 0 ∷ 0 ∷ []))
unfolding ask_new_scalar
e34 = refl

-- new_scalar_call: refused 2
e35 : ask_new_scalar 0 ≡ refused 2
unfolding ask_new_scalar
e35 = refl

-- dense_call: answered
e36 : ask_dense (nums (1 ∷ 65536 ∷ [])) 1802 ≡ given (nums (0 ∷ 1 ∷ 1 ∷ 65536 ∷ 0 ∷ 0 ∷ 0 ∷ []))
unfolding ask_dense
e36 = refl

-- dense_call: refused 1
e37 : ask_dense (nums (5 ∷ [])) 0 ≡ refused 1
unfolding ask_dense
e37 = refl

-- dense_call: refused 2
e38 : ask_dense (nums (0 ∷ [])) 0 ≡ refused 2
unfolding ask_dense
e38 = refl

e39 : ask_dense (negsuc 0 ∷ []) 0 ≡ refused 2
unfolding ask_dense
e39 = refl

-- dense_call: refused 5
e40 : ask_dense [] 1802 ≡ refused 5
unfolding ask_dense
e40 = refl

e41 : ask_dense (pos 1 ∷ negsuc 2 ∷ []) 1802 ≡ refused 5
unfolding ask_dense
e41 = refl

e42 : ask_dense (nums (1 ∷ 65537 ∷ [])) 1802 ≡ refused 5
unfolding ask_dense
e42 = refl

-- diagonal_call: refused 1
e43 : ask_diagonal (nums (5 ∷ [])) 0 ≡ refused 1
unfolding ask_diagonal
e43 = refl

e44 : ask_diagonal (nums (5 ∷ [])) 1801 ≡ refused 1
unfolding ask_diagonal
e44 = refl

-- diagonal_call: refused 12
e45 : ask_diagonal (nums (0 ∷ [])) 1802 ≡ refused 12
unfolding ask_diagonal
e45 = refl

-- diagonal_call: refused 2
e46 : ask_diagonal (nums (0 ∷ [])) 0 ≡ refused 2
unfolding ask_diagonal
e46 = refl

e47 : ask_diagonal (negsuc 0 ∷ []) 0 ≡ refused 2
unfolding ask_diagonal
e47 = refl

-- diagonal_call: refused 5
e48 : ask_diagonal [] 1802 ≡ refused 5
unfolding ask_diagonal
e48 = refl

-- sparse_call: answered
e49 : ask_sparse (nums (1 ∷ 2 ∷ [])) (pos 2) (nums (1 ∷ 0 ∷ [])) 1802 ≡ given (nums (2 ∷ 0 ∷ 1 ∷ 2 ∷ 2 ∷ 1 ∷ 0 ∷ 0 ∷ 0 ∷ []))
unfolding ask_sparse
e49 = refl

-- sparse_call: refused 1
e50 : ask_sparse (nums (5 ∷ [])) (negsuc 0) [] 0 ≡ refused 1
unfolding ask_sparse
e50 = refl

e51 : ask_sparse (nums (6 ∷ [])) (pos 1) [] 1802 ≡ refused 1
unfolding ask_sparse
e51 = refl

-- sparse_call: refused 12
e52 : ask_sparse (nums (0 ∷ [])) (pos 2) [] 1802 ≡ refused 12
unfolding ask_sparse
e52 = refl

e53 : ask_sparse (nums (1 ∷ 2 ∷ [])) (pos 1) (nums (2 ∷ [])) 1802 ≡ refused 12
unfolding ask_sparse
e53 = refl

e54 : ask_sparse (nums (1 ∷ 2 ∷ [])) (pos 2) (nums (1 ∷ 1 ∷ [])) 1802 ≡ refused 12
unfolding ask_sparse
e54 = refl

-- sparse_call: refused 2
e55 : ask_sparse [] (pos 0) [] 0 ≡ refused 2
unfolding ask_sparse
e55 = refl

e56 : ask_sparse (negsuc 0 ∷ []) (negsuc 0) [] 0 ≡ refused 2
unfolding ask_sparse
e56 = refl

-- sparse_call: refused 5
e57 : ask_sparse (nums (0 ∷ [])) (negsuc 0) [] 1802 ≡ refused 5
unfolding ask_sparse
e57 = refl

e58 : ask_sparse (nums (1 ∷ 2 ∷ [])) (pos 1) [] 1802 ≡ refused 5
unfolding ask_sparse
e58 = refl

e59 : ask_sparse (nums (1 ∷ 2 ∷ [])) (negsuc 0) (nums (7 ∷ [])) 1802 ≡ refused 5
unfolding ask_sparse
e59 = refl

-- to_data_layout_call: answered
e60 : ask_to_data_layout (nums (0 ∷ 0 ∷ 0 ∷ 0 ∷ 0 ∷ 0 ∷ [])) 1802 ≡ given []
unfolding ask_to_data_layout
e60 = refl

e61 : ask_to_data_layout (nums (2 ∷ 0 ∷ 0 ∷ 1 ∷ 0 ∷ 0 ∷ [])) 1802 ≡ given []
unfolding ask_to_data_layout
e61 = refl

-- to_data_layout_call: refused 1
e62 : ask_to_data_layout (nums (0 ∷ 0 ∷ 5 ∷ [])) 0 ≡ refused 1
unfolding ask_to_data_layout
e62 = refl

-- to_data_layout_call: refused 2
e63 : ask_to_data_layout [] 0 ≡ refused 2
unfolding ask_to_data_layout
e63 = refl

e64 : ask_to_data_layout [] 1801 ≡ refused 2
unfolding ask_to_data_layout
e64 = refl

-- to_data_layout_call: refused 3
e65 : ask_to_data_layout [] 1802 ≡ refused 3
unfolding ask_to_data_layout
e65 = refl
