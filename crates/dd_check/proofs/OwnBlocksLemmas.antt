-- The blocks of arrays.
use Rattle.std.proofs.Common.{◌≡◌, ℕ, suc, ◌+◌, ◌<◌, List, [], ◌∷◌, length, get_or, refl, sym, subst, arith}
use Rattle.std.specs.List.{All, Contains, flat_map, range_with_len}
use Rattle.std.proofs.lemmas.List.Elements.{All-append, All-map, Contains-get_or}
use Rattle.std.proofs.lemmas.List.FromFn.{get_or-range_with_len, length-range_with_len}
use Rattle.dd_blocks.specs.declared.array_row.ArrayRow.{ArrayRow}
use Rattle.dd_blocks.specs.declared.block_row.BlockRow.{BlockRow}
use Rattle.dd_blocks.specs.Grids.{block_count, block_size}
use Rattle.dd_blocks.specs.Layout.{blocks_of_array, blocks_of_arrays, first_home}
use Rattle.dd_blocks.specs.Numbered.{IsNumberIn, no_array, numbered}

pub All_flat_map : {X Y : Type 0} (P : Y → Type 0) (f : X → List Y) (xs : List X) → All (λ x. All P (f x)) xs → All P (flat_map f xs)
All_flat_map P f [] all = λ k d lt. absurd (omega arith)
All_flat_map P f (x ∷ xs) all = All-append P (f x) (flat_map f xs) (all 0 x (omega arith)) (All_flat_map P f xs (λ k d lt. all (suc k) d (omega arith)))

-- a row of a block names the array that has it
pub named_array : (spaces n : ℕ) (array : ArrayRow) → All (λ (b : BlockRow). b.array ≡ n) (blocks_of_array spaces n array)
named_array spaces n array = All-map (λ (b : BlockRow). b.array ≡ n) (λ i. record { array = n; home = first_home spaces (array.first_block + i); size = block_size array.grid i }) (range_with_len 0 (block_count array.grid)) (λ k d lt. refl)

-- and stands among that array's blocks
pub own_blocks : (spaces : ℕ) (arrays : List ArrayRow) → All (λ (b : BlockRow). IsNumberIn arrays b.array × Contains (blocks_of_array spaces b.array (numbered no_array arrays b.array)) b) (blocks_of_arrays spaces arrays)
own_blocks spaces arrays = All_flat_map P (λ n. blocks_of_array spaces n (numbered no_array arrays n)) (range_with_len 1 (length arrays)) (λ k d lt i e less. go (get_or (range_with_len 1 (length arrays)) k d) (number k d lt) i e less)
  where
    P : BlockRow → Type 0
    P b = IsNumberIn arrays b.array × Contains (blocks_of_array spaces b.array (numbered no_array arrays b.array)) b

    number : (k d : ℕ) → k < length (range_with_len 1 (length arrays)) → IsNumberIn arrays (get_or (range_with_len 1 (length arrays)) k d)
    number k d lt =
        let within : k < length arrays = omega (arith, length-range_with_len 1 (length arrays)) in
        let is : get_or (range_with_len 1 (length arrays)) k d ≡ 1 + k = get_or-range_with_len 1 (length arrays) k d within in
        (omega (arith, is), omega (arith, is))

    go : (n : ℕ) → IsNumberIn arrays n → (i : ℕ) (e : BlockRow) → i < length (blocks_of_array spaces n (numbered no_array arrays n)) → P (get_or (blocks_of_array spaces n (numbered no_array arrays n)) i e)
    go n there i e less =
        let same : (get_or (blocks_of_array spaces n (numbered no_array arrays n)) i e).array ≡ n = named_array spaces n (numbered no_array arrays n) i e less in
        subst (λ (m : ℕ). IsNumberIn arrays m × Contains (blocks_of_array spaces m (numbered no_array arrays m)) (get_or (blocks_of_array spaces n (numbered no_array arrays n)) i e)) (sym same)
        (there, Contains-get_or (blocks_of_array spaces n (numbered no_array arrays n)) i e less)
