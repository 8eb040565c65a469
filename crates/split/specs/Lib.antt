-- Planning a split: nothing here is for a reader to believe; the definitions of a split are those of `change`.
pub mod inner
