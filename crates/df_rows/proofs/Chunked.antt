-- Rows in chunks: one after the other they are the rows.
use Rattle.std.{proofs.{Common.{◌≡◌, ℕ, zero, suc, ◌+◌, ◌*◌, ◌<◌, List, ◌++◌, length, take, drop, map, sym, ap, ◌∙◌, arith}, Math.Seq.{take-add}, lemmas.List.{drop-drop, take_all}}, specs.{List.{flat_map, range_with_len}, Fork.{slice_chunk}}}
use Rattle.df_rows.{specs.{Rows.{Entry}, Limits.{block_count}, Blocks.{chunks_of}}, proofs.Counts.{blocks_cover}}

-- chunks one after the other
abbrev pub joined : List (List Entry) → List Entry
joined chunks = flat_map (λ (c : List Entry). c) chunks

abbrev chunks_from : (per : ℕ) → List Entry → (k n : ℕ) → List (List Entry)
chunks_from per es k n = map (λ j. slice_chunk es per j) (range_with_len k n)

-- n chunks from the k-th on
joined_from : (per : ℕ) (es : List Entry) (k n : ℕ) → joined (chunks_from per es k n) ≡ take (n * per) (drop (k * per) es)
joined_from per es k zero = ap (λ (m : ℕ). take m (drop (k * per) es)) (none per)
  where
    none : (per : ℕ) → zero ≡ zero * per
    none per = omega arith
joined_from per es k (suc n) =
    ap (λ (l : List Entry). slice_chunk es per k ++ l) (joined_from per es (k + 1) n ∙ ap (λ (l : List Entry). take (n * per) l) later)
    ∙ sym (take-add per (n * per) (drop (k * per) es)) ∙ ap (λ (m : ℕ). take m (drop (k * per) es)) (sym (more n per))
  where
    more : (n per : ℕ) → suc n * per ≡ per + n * per
    more n per = omega arith

    behind : (k per : ℕ) → (k + 1) * per ≡ k * per + per
    behind k per = omega arith

    later : drop ((k + 1) * per) es ≡ drop per (drop (k * per) es)
    later = ap (λ (m : ℕ). drop m es) (behind k per) ∙ sym (drop-drop per (k * per) es)

pub joined_chunks : (per : ℕ) (es : List Entry) → 0 < per → joined (chunks_of per es) ≡ es
joined_chunks per es some =
    joined_from per es 0 (block_count per (length es)) ∙ ap (λ (m : ℕ). take (block_count per (length es) * per) (drop m es)) (none per)
    ∙ take_all (block_count per (length es) * per) es (blocks_cover per (length es) some)
  where
    none : (per : ℕ) → 0 * per ≡ 0
    none per = omega arith
