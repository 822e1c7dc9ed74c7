-- Document 01, "Layouts", parts 3 and 4; draft 0.6.0, 3.3.1 and 3.5.1: the words of a row, in order.
-- Declared in src/: Exec, Ext (here).
use Rattle.std.specs.Prelude.{cond, ℕ, ◌+◌, List, [], ◌∷◌, ◌++◌, length, get_or, eqb}
use Rattle.word.specs.Bytes.{word_at, bytes_of, with_word}
use Rattle.rows.specs.declared.Exec.{Exec}
use Rattle.rows.specs.declared.Ext.{Ext}

-- the execution row that starts at a byte
unfoldable pub exec_at : List ℕ → ℕ → Exec
exec_at s at =
    record {
      pc = word_at s at;
      fp = word_at s (at + 4);
      addrA = word_at s (at + 8);
      addrB = word_at s (at + 12);
      addrC = word_at s (at + 16);
      valueA = word_at s (at + 20);
      valueB = word_at s (at + 24);
      valueC = word_at s (at + 28);
    }

-- five words from a byte on
unfoldable pub five_at : List ℕ → ℕ → List ℕ
five_at s at = word_at s at ∷ word_at s (at + 4) ∷ word_at s (at + 8) ∷ word_at s (at + 12) ∷ word_at s (at + 16) ∷ []

-- the extension row that starts at a byte
unfoldable pub ext_at : List ℕ → ℕ → Ext
ext_at s at =
    record {
      start = word_at s at;
      add = word_at s (at + 4);
      mul = word_at s (at + 8);
      peq = word_at s (at + 12);
      len = word_at s (at + 16);
      idxA = word_at s (at + 20);
      idxB = word_at s (at + 24);
      idxR = word_at s (at + 28);
      be = word_at s (at + 32);
      base = word_at s (at + 36);
      vA = five_at s (at + 40);
      vB = five_at s (at + 60);
      comp = five_at s (at + 80);
      res = five_at s (at + 100);
    }

-- the bytes of some words, one after the other
unfoldable pub bytes_of_words : List ℕ → List ℕ
bytes_of_words [] = []
bytes_of_words (x ∷ xs) = bytes_of x ++ bytes_of_words xs

-- the buffer after words are put one by one, from a byte on
abbrev pub with_words : List ℕ → ℕ → List ℕ → List ℕ
with_words s at [] = s
with_words s at (w ∷ ws) = with_words (with_word s at w) (at + 4) ws

-- the words of a row, in order
abbrev pub exec_words : Exec → List ℕ
exec_words r = r.pc ∷ r.fp ∷ r.addrA ∷ r.addrB ∷ r.addrC ∷ r.valueA ∷ r.valueB ∷ r.valueC ∷ []

abbrev pub five_words : List ℕ → List ℕ
five_words a = get_or a 0 0 ∷ get_or a 1 0 ∷ get_or a 2 0 ∷ get_or a 3 0 ∷ get_or a 4 0 ∷ []

abbrev pub ext_words : Ext → List ℕ
ext_words r =
    (r.start ∷ r.add ∷ r.mul ∷ r.peq ∷ r.len ∷ r.idxA ∷ r.idxB ∷ r.idxR ∷ r.be ∷ r.base ∷ [])
    ++ five_words r.vA
    ++ five_words r.vB
    ++ five_words r.comp
    ++ five_words r.res

-- a row's bytes put in the place of as many; a buffer of another length is left as it is
unfoldable pub put_row : List ℕ → ℕ → List ℕ → List ℕ
put_row s size words = cond (eqb (length s) size) (bytes_of_words words) s
