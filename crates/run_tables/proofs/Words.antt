-- Words below p, written as bytes and read back: each word is four bytes, and one list after another is one list.
-- Assumes nothing.
use mathlib.Core.Path.{◌≡◌, refl, sym, ◌∙◌, ap}
use mathlib.Core.List.{List, [], ◌∷◌, ◌++◌, append_assoc}
use Prim.Native.Nat.{ℕ, zero, suc, ◌+◌, ◌*◌, ◌^◌, ◌<◌}
use native.Mathlib.Nat.{add_assoc}
use native.Mathlib.Omega.{arith}
use lib.Dec.{lit<}
use lib.ListN.{get_or}
use lib.Seq.{get_or-append-add}
use Rattle.word.specs.Word.{IsWord}
use Rattle.word.specs.Bytes.{word_at, bytes_of, concatenated}
use Rattle.word.specs.Element.{IsElement}
use Rattle.word.proofs.FourBytes.{read_bytes}
use Rattle.word.proofs.Part.{word_behind}
use Rattle.rows.specs.declared.Exec.{Exec}
use Rattle.rows.specs.declared.Ext.{Ext}
use Rattle.rows.specs.Rows.{bytes_of_words, exec_words, five_words, ext_words}
use Rattle.rows.proofs.RowLaws.{Below}
use Rattle.run_steps.specs.Setting.{ExecWords}
use Rattle.run_groups.proofs.Meaning.{RowWords}

abbrev pub AllWords : List ℕ → Type 0
AllWords [] = Unit
AllWords (w ∷ ws) = IsWord w × AllWords ws

pub word_of : (ws : List ℕ) → AllWords ws → (k : ℕ) → IsWord (get_or ws k 0)
word_of [] a k = lit< tt
word_of (w ∷ ws) a zero = a.0
word_of (w ∷ ws) a (suc k) = word_of ws a.1 k

pub words_below : (ws : List ℕ) → AllWords ws → Below (2 ^ 32) ws
words_below ws a k = omega (arith, word_of ws a k)

words_joined : (ws vs : List ℕ) → AllWords ws → AllWords vs → AllWords (ws ++ vs)
words_joined [] vs a b = b
words_joined (w ∷ ws) vs a b = (a.0, words_joined ws vs a.1 b)

pub rows_words : (row : ℕ → List ℕ) (n : ℕ) → ((r : ℕ) → r < n → AllWords (row r)) → AllWords (concatenated row n)
unfolding concatenated
rows_words row zero a = tt
rows_words row (suc n) a = words_joined (concatenated row n) (row n) (rows_words row n (λ r h. a r (omega arith))) (a n (omega arith))

-- a row's words
pub exec_all : (x : Exec) → ExecWords x → AllWords (exec_words x)
exec_all x w = (w.pc, (w.fp, (w.addrA, (w.addrB, (w.addrC, (w.valueA, (w.valueB, (w.valueC, tt))))))))

five_all : (a : List ℕ) → IsElement a → AllWords (five_words a)
five_all a e = (e.all_words 0, (e.all_words 1, (e.all_words 2, (e.all_words 3, (e.all_words 4, tt)))))

pub ext_all : (x : Ext) → RowWords x → AllWords (ext_words x)
ext_all x w =
    words_joined (base ++ five_words x.vA ++ five_words x.vB ++ five_words x.comp) (five_words x.res)
    (words_joined (base ++ five_words x.vA ++ five_words x.vB) (five_words x.comp)
    (words_joined (base ++ five_words x.vA) (five_words x.vB)
    (words_joined base (five_words x.vA) ten (five_all x.vA w.vA))
    (five_all x.vB w.vB))
    (five_all x.comp w.comp))
    (five_all x.res w.res)
  where
    base : List ℕ
    base = x.start ∷ x.add ∷ x.mul ∷ x.peq ∷ x.len ∷ x.idxA ∷ x.idxB ∷ x.idxR ∷ x.be ∷ x.base ∷ []

    ten : AllWords base
    ten = (w.start, (w.add, (w.mul, (w.peq, (w.len, (w.idxA, (w.idxB, (w.idxR, (w.be, (w.base, tt))))))))))

-- bytes of one list after another
bytes_joined : (ws vs : List ℕ) → bytes_of_words (ws ++ vs) ≡ bytes_of_words ws ++ bytes_of_words vs
unfolding bytes_of_words
bytes_joined [] vs = refl
bytes_joined (w ∷ ws) vs = ap (λ (l : List ℕ). bytes_of w ++ l) (bytes_joined ws vs) ∙ simp append_assoc

rows_bytes : (row : ℕ → List ℕ) (n : ℕ) → concatenated (λ r. bytes_of_words (row r)) n ≡ bytes_of_words (concatenated row n)
unfolding concatenated bytes_of_words
rows_bytes row zero = refl
rows_bytes row (suc n) = ap (λ (l : List ℕ). l ++ bytes_of_words (row n)) (rows_bytes row n) ∙ sym (bytes_joined (concatenated row n) (row n))

words_read : (ws : List ℕ) → AllWords ws → (k : ℕ) → word_at (bytes_of_words ws) (4 * k) ≡ get_or ws k 0
unfolding bytes_of_words
words_read [] a k = refl
words_read (w ∷ ws) a zero = read_bytes w (omega (arith, a.0))
words_read (w ∷ ws) a (suc k) =
    let next : 4 * suc k ≡ 4 + 4 * k = omega arith in
    rw next (word_behind (bytes_of w) (bytes_of_words ws) (4 * k) ∙ words_read ws a.1 k)

-- every word of the bytes of rows of words is below p
pub rows_read : (row : ℕ → List ℕ) (n : ℕ) → ((r : ℕ) → r < n → AllWords (row r)) → (k : ℕ)
    → IsWord (word_at (concatenated (λ r. bytes_of_words (row r)) n) (4 * k))
rows_read row n a k =
    let all = rows_words row n a in
    rw (rows_bytes row n, words_read (concatenated row n) all k) (word_of (concatenated row n) all k)
