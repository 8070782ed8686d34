-- The operations of finite maps on closed terms, computed.
use Rattle.std.proofs.Common.{◌≡◌, ℕ, ◌*◌, [], ◌∷◌, Some, None, refl, nat_cmp}
use Rattle.words36.specs.declared.names.FileName.{FileName}
use Rattle.spec_image.specs.Files.{name_cmp}
use Rattle.spec_image.specs.Maps.{FinMap, entries, empty, get, insert, remove, size, keys, values, from_entries}
use Rattle.spec_image.specs.Maps.{map_values, sum_over, sum_entries, times}

abbrev two : FinMap nat_cmp ℕ
two = insert (insert empty 3 7) 1 5

abbrev three : FinMap nat_cmp ℕ
three = from_entries ((3, 7) ∷ (9, 2) ∷ (1, 5) ∷ (3, 8) ∷ [])

two_has : get two 3 ≡ Some 7
unfolding empty insert get entries
two_has = refl

two_lacks : get two 2 ≡ None
unfolding empty insert get entries
two_lacks = refl

two_written : get (insert two 3 4) 3 ≡ Some 4
unfolding empty insert get entries
two_written = refl

two_entries : entries two ≡ (1, 5) ∷ (3, 7) ∷ []
unfolding empty insert entries
two_entries = refl

three_entries : entries three ≡ (1, 5) ∷ (3, 7) ∷ (9, 2) ∷ []
unfolding empty insert entries
three_entries = refl

three_keys : keys three ≡ 1 ∷ 3 ∷ 9 ∷ []
unfolding empty insert entries
three_keys = refl

three_values : values three ≡ 5 ∷ 7 ∷ 2 ∷ []
unfolding empty insert entries
three_values = refl

removed : entries (remove three 3) ≡ (1, 5) ∷ (9, 2) ∷ []
unfolding empty insert remove entries
removed = refl

removed_from_empty : remove (empty {X = ℕ} {R = nat_cmp}) 3 ≡ empty
unfolding empty remove
removed_from_empty = refl

put_back : get (insert (remove three 3) 3 1) 3 ≡ Some 1
unfolding empty insert remove get entries
put_back = refl

size_of_three : size three ≡ 3
unfolding empty insert size entries
size_of_three = refl

doubled : entries (map_values (λ n. 2 * n) three) ≡ (1, 10) ∷ (3, 14) ∷ (9, 4) ∷ []
unfolding empty insert entries
doubled = refl

sum_of_three : sum_over (λ n. n) three ≡ 14
unfolding empty insert entries
sum_of_three = refl

weighed : sum_entries (λ k n. k * n) three ≡ 44
unfolding empty insert entries
weighed = refl

counted : times 3 (3 ∷ 1 ∷ 3 ∷ []) ≡ 2
counted = refl

abbrev key : ℕ → ℕ → FileName
key name ext = record { name = name; ext = ext }

abbrev named : FinMap name_cmp ℕ
named = from_entries ((key 2 1, 5) ∷ (key 1 9, 6) ∷ (key 2 0, 7) ∷ [])

by_name : keys named ≡ key 1 9 ∷ key 2 0 ∷ key 2 1 ∷ []
unfolding empty insert entries
by_name = refl

by_extension : get named (key 2 1) ≡ Some 5
unfolding empty insert get entries
by_extension = refl
