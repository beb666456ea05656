-- A buffer of sectors that is filled one sector after another.
use Rattle.std.proofs.{Common.{◌≡◌, ℕ, zero, suc, ◌+◌, ◌*◌, ◌≤◌, List, ◌++◌, length, take, sym, ap, ◌∙◌, append_assoc, append-nil, arith, add-zero}, lemmas.Slice.{take-put_mid}}
use borrow.Rule.Slice.PartMut.{put_mid}
use Rattle.df_base.specs.Image.{Image, bytes_at}

pub bytes_at-more : (image : Image) (at n : ℕ) → bytes_at image at (n + 1) ≡ bytes_at image at n ++ image (at + n)
bytes_at-more image at zero = rw (add-zero at) (append-nil (image at))
bytes_at-more image at (suc n) =
    let rest : bytes_at image (at + 1) (n + 1) ≡ bytes_at image (at + 1) n ++ image (at + 1 + n) = bytes_at-more image (at + 1) n in
    let place : at + 1 + n ≡ at + suc n = omega arith in let count : suc n + 1 ≡ suc (n + 1) = omega arith in
    ap (λ (m : ℕ). bytes_at image at m) count
    ∙ ap (λ (bs : List ℕ). image at ++ bs) (rest ∙ ap (λ (m : ℕ). bytes_at image (at + 1) n ++ image m) place)
    ∙ sym (append_assoc (image at) (bytes_at image (at + 1) n) (image (at + suc n)))

-- the sectors so far, and one more
pub filled_more : (image : Image) (at n k : ℕ) (into one : List ℕ) → 4096 * n ≤ length into → length one ≡ 4096 → one ≡ image (at + n)
    → take (4096 * n) into ≡ bytes_at image at n → take (4096 * (n + 1)) (put_mid (4096 * n) k into one) ≡ bytes_at image at (n + 1)
filled_more image at n k into one within size is before = take-put_mid (4096 * n) k into one (4096 * (n + 1)) (omega (arith, size)) within
    ∙ ap (λ (front : List ℕ). front ++ one) before ∙ ap (λ (last : List ℕ). bytes_at image at n ++ last) is ∙ sym (bytes_at-more image at n)
