mod SavedLaws
mod OutputLaws
