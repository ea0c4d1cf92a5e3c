-- Worked lines of the whole language, computed from the definitions alone.
use Rattle.std.proofs.Common.{ℕ, pos, [], ◌∷◌, Some, None, refl, codes}
use Rattle.dd_tokens.specs.declared.token.Token.{Token}
use Rattle.dd_tokens.specs.declared.token.TokenKind.TheVariants.{Word, Number, Mark}
use Rattle.dd_kernels.specs.declared.signature.Mode.TheVariants.{Read, Write}
use Rattle.dd_views.specs.declared.range.Range.TheVariants as range
use Rattle.dd_views.specs.declared.part.Part.TheVariants as part
use Rattle.dd_script.specs.declared.index.Index.TheVariants as index
use Rattle.dd_script.specs.declared.viewed.Viewed.TheVariants.{Whole, Indexed}
use Rattle.dd_script.specs.declared.argument.Argument.TheVariants.{Bare, OneWord, WithPairs}
use Rattle.dd_script.specs.declared.written.Written.TheVariants as written
use Rattle.dd_script.specs.declared.statement.Statement.TheVariants.{Space, Task}
use Rattle.dd_script.specs.Pieces.{mode_named, part_named, pair_piece, word_piece, gathered, deps_pieces, pieces_of}
use Rattle.dd_script.specs.Reads.{meaning, Reads}

word : ℕ → ℕ → Token
word first count = record { kind = Word; first = first; count = count }

number : ℕ → ℕ → Token
number first count = record { kind = Number; first = first; count = count }

mark : ℕ → Token
mark first = record { kind = Mark; first = first; count = 1 }

-- nothing but a comment
comment_reads : Reads (codes " # print A") None
comment_reads = record { tokens = []; cut = refl; say = refl }

space_reads : Reads (codes "space s 064") (Some (Space (codes "s") 64))
unfolding word number meaning
space_reads = record {
  tokens = word 0 5 ∷ word 6 1 ∷ number 8 3 ∷ [];
  cut = (refl, refl, (refl, refl, (refl, refl, refl)));
  say = record { form = written.Space (codes "s") (pos 64); spelled = refl; fits = refl; means = refl };
}

-- all of B is written, all of A is read
copy_reads : Reads (codes "task copy Out(B) A")
    (Some (Task (codes "copy") None (
    record { mode = Write; name = codes "B"; rows = range.All; cols = range.All; part = part.All }
    ∷ record { mode = Read; name = codes "A"; rows = range.All; cols = range.All; part = part.All } ∷ [])))
unfolding word mark meaning gathered pieces_of word_piece mode_named
copy_reads = record {
  tokens = word 0 4 ∷ word 5 4 ∷ word 10 3 ∷ mark 13 ∷ word 14 1 ∷ mark 15 ∷ word 17 1 ∷ [];
  cut = (refl, refl, (refl, refl, (refl, refl, (refl, refl, (refl, refl, (refl, refl, (refl, refl, refl)))))));
  say = record {
    form = written.Task (codes "copy") None (OneWord (codes "Out") (Whole (codes "B")) ∷ Bare (Whole (codes "A")) ∷ []);
    spelled = refl;
    fits = refl;
    means = refl;
  };
}

-- the lower part of a view is read, and its diagonal written
deps_read : Reads (codes "task k 2 Deps(A[1:3,:],In(lower),Out(diag))")
    (Some (Task (codes "k") (Some (pos 2)) (
    record { mode = Read; name = codes "A"; rows = range.Run (pos 1) (pos 3); cols = range.All; part = part.Lower }
    ∷ record { mode = Write; name = codes "A"; rows = range.Run (pos 1) (pos 3); cols = range.All; part = part.Diag } ∷ [])))
unfolding word number mark meaning gathered pieces_of deps_pieces pair_piece mode_named part_named
deps_read = record {
  tokens = word 0 4 ∷ word 5 1 ∷ number 7 1 ∷ word 9 4 ∷ mark 13 ∷ word 14 1 ∷ mark 15 ∷ number 16 1 ∷ mark 17 ∷ number 18 1
      ∷ mark 19 ∷ mark 20 ∷ mark 21 ∷ mark 22 ∷ word 23 2 ∷ mark 25 ∷ word 26 5 ∷ mark 31 ∷ mark 32 ∷ word 33 3 ∷ mark 36 ∷ word 37 4
      ∷ mark 41 ∷ mark 42 ∷ [];
  cut = (
    refl,
    refl,
    (
      refl,
      refl,
      (
        refl,
        refl,
        (
          refl,
          refl,
          (
            refl,
            refl,
            (
              refl,
              refl,
              (
                refl,
                refl,
                (
                  refl,
                  refl,
                  (
                    refl,
                    refl,
                    (
                      refl,
                      refl,
                      (
                        refl,
                        refl,
                        (
                          refl,
                          refl,
                          (
                            refl,
                            refl,
                            (
                              refl,
                              refl,
                              (
                                refl,
                                refl,
                                (
                                  refl,
                                  refl,
                                  (
                                    refl,
                                    refl,
                                    (
                                      refl,
                                      refl,
                                      (
                                        refl,
                                        refl,
                                        (
                                          refl,
                                          refl,
                                          (refl, refl, (refl, refl, (refl, refl, (refl, refl, refl)))),
                                        ),
                                      ),
                                    ),
                                  ),
                                ),
                              ),
                            ),
                          ),
                        ),
                      ),
                    ),
                  ),
                ),
              ),
            ),
          ),
        ),
      ),
    ),
  );
  say = record {
    form = written.Task (codes "k") (Some (pos 2)) (
        WithPairs (codes "Deps") (Indexed (codes "A") (index.Run (pos 1) (pos 3)) index.All)
        (record { access = codes "In"; part = codes "lower" }) (record { access = codes "Out"; part = codes "diag" } ∷ []) ∷ []);
    spelled = refl;
    fits = refl;
    means = refl;
  };
}
